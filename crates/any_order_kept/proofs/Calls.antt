-- What the calls answer, by the branches that the code takes.
-- Assumes nothing.
use mathlib.Core.Path.{◌≡◌, sym, ◌∙◌}
use mathlib.Core.Logic.{◌≢◌}
use mathlib.Core.Bool.{true, false}
use mathlib.Core.List.{[], ◌∷◌}
use Prim.Native.Nat.{ℕ}
use borrow.Author.Tests.{ne_eqb}
use Rattle.layout.specs.Machine.{Machine, ticks_of}
use Rattle.layout_texts.specs.declared.Text.TheVariants.{Of1978}
use Rattle.base_questions.specs.Questions.{asked}
use Rattle.machine.specs.Questions.{question1, question2}
use Rattle.any_order_sums.specs.Places.{Kept}
use Rattle.any_order_counts.specs.Kept.{kept_of}
use Rattle.any_order_counts.specs.AsCoded.{Countable, counted_moved, counted_to}
use Rattle.any_order_rule.specs.AsCoded.{answered}
use Rattle.any_order_rule.proofs.Rule.{counted-own}
use Rattle.machine_change.specs.Change.{Change, changed_by, concerned, change_refusal}
use Rattle.any_order.proofs.Answers.{is-countable}
use Rattle.any_order_kept.specs.Keeping.{Making, keep_of, kept_after, ChangeOutcome, change_of}

module _ (m : Machine) {number : ℕ} (is : number ≡ asked (question1 m ∷ question2 Of1978 m ∷ [])) where
  -- Keep.
  pub keep-refused : (k : Kept) → number ≢ 0 → ◌≡◌ {A = Making} (record { number = number; kept = k }) (keep_of m k)
  unfolding keep_of
  keep-refused k n = rw (← is, ne_eqb number 0 n)

  pub keep-made : (k : Kept) → number ≡ 0 → {made left : Kept} → made ≡ counted_to m (ticks_of m) → left ≡ answered made
      → ◌≡◌ {A = Making} (record { number = 0; kept = left }) (keep_of m k)
  unfolding keep_of
  keep-made k z made-is left_is =
      let own : answered (counted_to m (ticks_of m)) ≡ kept_of m = counted-own m (is-countable m (sym is ∙ z)) in
      rw (← is, z, left_is, made-is, own)

-- Change.
module _ (m : Machine) (k : Kept) (c : Change) {number : ℕ} (is : number ≡ change_refusal m c) where
  pub change-left : number ≢ 0 → ◌≡◌ {A = ChangeOutcome} (record { number = number; machine = m; kept = k }) (change_of m k c)
  unfolding change_of
  change-left n = rw (← is, ne_eqb number 0 n)

  pub change-made : number ≡ 0 → {n : Machine} {left : Kept} → n ≡ changed_by m c → left ≡ kept_after m n (concerned m c) k
      → ◌≡◌ {A = ChangeOutcome} (record { number = number; machine = n; kept = left }) (change_of m k c)
  unfolding change_of
  change-made z n-is left_is = rw (← is, z, left_is, n-is)

-- What is kept, step by step.
pub after-by : (m n : Machine) (g : ℕ) (k : Kept) {h : ℕ} {out back left : Kept} → h ≡ g → out ≡ counted_moved false m k h → back ≡ counted_moved true n out h → left ≡ answered back
    → left ≡ kept_after m n g k
unfolding kept_after
after-by m n g k h-is out-is back_is left_is = rw (left_is, back_is, out-is, h-is)

pub countable-as : {x n : Machine} → x ≡ n → Countable n → Countable x
countable-as e c = rw e c

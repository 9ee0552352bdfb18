-- The questions of a change.
-- Assumes nothing.
use mathlib.Core.Path.{◌≡◌, refl, sym, ◌∙◌}
use mathlib.Core.Logic.{◌≢◌}
use mathlib.Core.Bool.{Bool, true, false, cond, ◌&&◌, true≢false}
use mathlib.Core.List.{[], ◌∷◌}
use Prim.Native.Nat.{ℕ}
use native.Mathlib.Omega.{arith}
use borrow.Author.Tests.{eqb-true, eqb-false, eq-eqb, ne_eqb}
use lib.Dec.{eqb}
use lib.ListN.{length}
use Rattle.base_lists.proofs.Below.{and_first, and_second}
use Rattle.layout.specs.Layout.{machine_length}
use Rattle.layout.specs.Machine.{Machine}
use Rattle.layout_texts.specs.declared.Text.TheVariants.{Of1978}
use Rattle.base_questions.specs.Questions.{asked}
use Rattle.base_questions.proofs.Asked.{asked-first}
use Rattle.machine.specs.Questions.{question1, question2, valid}
use Rattle.machine.proofs.Asked.{machine-passes}
use Rattle.machine_change.specs.Change.{Change, is_change, changed_by, change_refusal}
use Rattle.machine_change.specs.AsCoded.{let_through}
use Rattle.machine_change.proofs.Valid.{let-through-is}

-- The questions of a change, one after the other.
module _ (m : Machine) (c : Change) where
  -- What they ask of a machine of the right length.
  pub whole-asked : length m ≡ machine_length → change_refusal m c ≡ cond (valid Of1978 m) (cond (is_change c) (cond (valid Of1978 (changed_by m c)) 0 2) 2) 2
  unfolding change_refusal asked
  whole-asked l = rw (eq-eqb (length m) machine_length l)

  short-asked : length m ≢ machine_length → change_refusal m c ≡ 1
  unfolding change_refusal asked
  short-asked n = rw (ne_eqb (length m) machine_length n)

  -- None refuses.
  pub record Passed : Type 0 where
    pub whole : length m ≡ machine_length
    pub good : valid Of1978 m ≡ true
    pub is : is_change c ≡ true
    pub after : valid Of1978 (changed_by m c) ≡ true

  pub none-refuses : change_refusal m c ≡ 0 → Passed
  none-refuses e = at (eqb (length m) machine_length) refl
    where
      go : (a b d : Bool) → ◌≡◌ {A = ℕ} (cond a (cond b (cond d 0 2) 2) 2) 0 → (a ≡ true) × (b ≡ true) × (d ≡ true)
      go true true true q = (refl, refl, refl)
      go true true false q = absurd (omega (arith, q))
      go true false d q = absurd (omega (arith, q))
      go false b d q = absurd (omega (arith, q))

      at : (b : Bool) → eqb (length m) machine_length ≡ b → Passed
      at true q =
          let l = eqb-true (length m) machine_length q in
          let all = go (valid Of1978 m) (is_change c) (valid Of1978 (changed_by m c)) (sym (whole-asked l) ∙ e) in
          record { whole = l; good = all.0; is = all.1; after = all.2 }
      at false q = absurd (omega (arith, short-asked (eqb-false (length m) machine_length q), e))

  pub through : Passed → let_through m c ≡ true
  through p = let-through-is m p.whole p.good c.kind c.generator c.value ∙ rw (p.is, p.after)

  -- By the number that the code finds.
  module _ {number : ℕ} (is : number ≡ asked (question1 m ∷ question2 Of1978 m ∷ [])) where
    pub first-refused : number ≢ 0 → number ≡ change_refusal m c
    unfolding change_refusal
    first-refused n = asked-first (question1 m) (question2 Of1978 m) (record { number = 2; yes = is_change c } ∷ question2 Of1978 (changed_by m c) ∷ []) is n

    module _ (z : number ≡ 0) where
      pub whole-machine : length m ≡ machine_length
      whole-machine = (machine-passes Of1978 m (sym is ∙ z)).0

      good-machine : valid Of1978 m ≡ true
      good-machine = (machine-passes Of1978 m (sym is ∙ z)).1

      -- Numbers that are no change's.
      pub no-change : is_change c ≡ false → 2 ≡ change_refusal m c
      no-change e = sym (whole-asked whole-machine ∙ rw (good-machine, e))

      let-is : let_through m c ≡ (is_change c && valid Of1978 (changed_by m c))
      let-is = let-through-is m whole-machine good-machine c.kind c.generator c.value

      pub change-refused : let_through m c ≡ false → 2 ≡ change_refusal m c
      change-refused e = sym (whole-asked whole-machine ∙ rw good-machine (refused (is_change c) (valid Of1978 (changed_by m c)) (sym let-is ∙ e)))
        where
          refused : (a b : Bool) → (a && b) ≡ false → ◌≡◌ {A = ℕ} (cond a (cond b 0 2) 2) 2
          refused true true q = absurd (true≢false q)
          refused true false q = refl
          refused false b q = refl

      pub change-passes : let_through m c ≡ true → 0 ≡ change_refusal m c
      change-passes e =
          let yes = sym let-is ∙ e in
          sym (whole-asked whole-machine ∙ rw (good-machine, and_first (is_change c) (valid Of1978 (changed_by m c)) yes, and_second (is_change c) (valid Of1978 (changed_by m c)) yes))

-- What holds of keep and change, and of lists of changes.
-- Assumes nothing.
use mathlib.Core.Path.{◌≡◌, refl, sym, ap, ◌∙◌}
use mathlib.Core.Logic.{◌↔◌, ◌≢◌}
use mathlib.Core.Bool.{Bool, true, false, cond, ◌&&◌, true≢false}
use mathlib.Core.List.{List, [], ◌∷◌}
use Prim.Native.Nat.{ℕ, ◌+◌, ◌*◌, ◌/◌, ◌%◌, ◌<◌, ◌≤◌}
use native.Mathlib.Omega.{arith}
use borrow.Author.Tests.{eqb-true, eqb-false, eq-eqb, ne_eqb, leb-true, leb-false, le-leb, lt-leb, ltb-true, ltb-false, le-ltb}
use lib.Dec.{eqb, leb, ltb}
use lib.ListN.{length, get_or, set}
use lib.Seq.{get_or-set_same}
use Rattle.layout.specs.Layout.{machine_length, generators, dacs, generator_at, GO}
use Rattle.layout.specs.Machine.{Machine}
use Rattle.layout_texts.specs.declared.Text.TheVariants.{Of1978}
use Rattle.base_questions.specs.Questions.{asked}
use Rattle.machine.specs.Questions.{question1, question2, valid}
use Rattle.any_order_sums.specs.Places.{Kept, order_free_at}
use Rattle.any_order_counts.specs.Kept.{kept_of}
use Rattle.any_order_rule.proofs.Rule.{own-answer}
use Rattle.machine_change.specs.Change.{Change, dac_change, tick_fewer, is_change, register_changed, changed_by, concerned, change_refusal, is_of}
use Rattle.machine_change.proofs.Valid.{change-elsewhere}
use Rattle.any_order.specs.AnyOrder.{any_order_of}
use Rattle.any_order.proofs.Answers.{is-countable, any-rule}
use Rattle.any_order_kept.specs.Keeping.{keep_of, kept_after, change_of, changes_of}
use Rattle.any_order_kept.specs.Reasons.{Reason}
use Rattle.any_order_kept.proofs.Asked.{whole-asked, none-refuses, through}
use Rattle.any_order_kept.proofs.Changed.{changed-whole, few, kept-own}

and-false : (b : Bool) → (b && false) ≡ false
and-false true = refl
and-false false = refl

-- A machine that passes question 1 and question 2 is asked neither again.
passed : (m : Machine) → length m ≡ machine_length → valid Of1978 m ≡ true → asked (question1 m ∷ question2 Of1978 m ∷ []) ≡ 0
unfolding asked
passed m whole good = rw (eq-eqb (length m) machine_length whole, good)

-- The answer that is kept of a machine that passes is Q-2's.
pub answer-own : (m : Machine) → asked (question1 m ∷ question2 Of1978 m ∷ []) ≡ 0 → get_or (kept_of m) order_free_at 0 ≡ cond (any_order_of m).alike 1 0
answer-own m e = own-answer m (is-countable m e) ∙ ap (λ (b : Bool). cond b 1 0) (sym (any-rule m e))

pub keep-own : (m : Machine) (k : Kept) → (keep_of m k).number ≡ 0 → ((keep_of m k).kept ≡ kept_of m) × (get_or (kept_of m) order_free_at 0 ≡ cond (any_order_of m).alike 1 0)
unfolding keep_of
keep-own m k e = (rw e, answer-own m e)

module _ (m : Machine) (c : Change) where
  -- What the call answers.
  module _ (k : Kept) where
    number-made : change_refusal m c ≡ 0 → (change_of m k c).number ≡ change_refusal m c
    unfolding change_of
    number-made e = rw e

    number-refused : change_refusal m c ≢ 0 → (change_of m k c).number ≡ change_refusal m c
    unfolding change_of
    number-refused n = rw (ne_eqb (change_refusal m c) 0 n)

    pub number_is : (change_of m k c).number ≡ change_refusal m c
    number_is = go (eqb (change_refusal m c) 0) refl
      where
        go : (b : Bool) → eqb (change_refusal m c) 0 ≡ b → (change_of m k c).number ≡ change_refusal m c
        go true e = number-made (eqb-true (change_refusal m c) 0 e)
        go false e = number-refused (eqb-false (change_refusal m c) 0 e)

    pub refused-leaves : (change_of m k c).number ≢ 0 → ((change_of m k c).machine ≡ m) × ((change_of m k c).kept ≡ k)
    unfolding change_of
    refused-leaves n = let e = ne_eqb (change_refusal m c) 0 (λ z. n (number_is ∙ z)) in (rw e, rw e)

    made-leaves : change_refusal m c ≡ 0 → ((change_of m k c).machine ≡ changed_by m c) × ((change_of m k c).kept ≡ kept_after m (changed_by m c) (concerned m c) k)
    unfolding change_of
    made-leaves e = (rw e, rw e)

  -- The machine's own words become the own ones of the machine then.
  module _ (k : Kept) (own : k ≡ kept_of m) where
    pub own-after : (change_of m k c).kept ≡ kept_of (change_of m k c).machine
    own-after = go (eqb (change_refusal m c) 0) refl
      where
        go : (b : Bool) → eqb (change_refusal m c) 0 ≡ b → (change_of m k c).kept ≡ kept_of (change_of m k c).machine
        go true e =
            let z = eqb-true (change_refusal m c) 0 e in
            let p = none-refuses m c z in
            let left = made-leaves k z in
            left.1
            ∙ ap (kept_after m (changed_by m c) (concerned m c)) own
            ∙ kept-own m p.whole p.good c.kind c.generator c.value (through m c p)
            ∙ ap kept_of (sym left.0)
        go false e =
            let left = refused-leaves k (λ z. eqb-false (change_refusal m c) 0 e (sym (number_is k) ∙ z)) in
            left.1 ∙ own ∙ ap kept_of (sym left.0)

  -- A machine that passes questions 1 and 2 passes them after a change.
  module _ (k : Kept) (whole : length m ≡ machine_length) (good : valid Of1978 m ≡ true) where
    pub good-after : (length (change_of m k c).machine ≡ machine_length) × (valid Of1978 (change_of m k c).machine ≡ true)
    good-after = go (eqb (change_refusal m c) 0) refl
      where
        go : (b : Bool) → eqb (change_refusal m c) 0 ≡ b → (length (change_of m k c).machine ≡ machine_length) × (valid Of1978 (change_of m k c).machine ≡ true)
        go true e =
            let z = eqb-true (change_refusal m c) 0 e in
            let p = none-refuses m c z in
            rw (made-leaves k z).0 (changed-whole m whole good c.kind c.generator c.value (through m c p), p.after)
        go false e = rw (refused-leaves k (λ z. eqb-false (change_refusal m c) 0 e (sym (number_is k) ∙ z))).0 (whole, good)

  -- 2 exactly for one of the reasons.
  no_change : is_change c ≡ false → Reason m c
  unfolding is_change
  no_change = go (leb c.kind dac_change) refl (ltb c.generator generators) refl (eqb c.kind dac_change) refl
    where
      go : (x : Bool) → leb c.kind dac_change ≡ x → (y : Bool) → ltb c.generator generators ≡ y → (z : Bool) → eqb c.kind dac_change ≡ z
          → cond x (y && cond z (ltb c.value dacs) true) (leb c.kind tick_fewer) ≡ false → Reason m c
      go true p true q true r e = Reason.no-dac (eqb-true c.kind dac_change r) (ltb-false c.value dacs e)
      go true p true q false r e = absurd (true≢false e)
      go true p false q z r e = Reason.no-generator (leb-true c.kind dac_change p) (ltb-false c.generator generators q)
      go false p y q z r e = Reason.no_kind (leb-false c.kind tick_fewer e)

  no-kind-is : tick_fewer < c.kind → is_change c ≡ false
  unfolding is_change
  no-kind-is e = rw (lt-leb c.kind dac_change (omega arith), lt-leb c.kind tick_fewer e)

  no-generator-is : c.kind ≤ dac_change → generators ≤ c.generator → is_change c ≡ false
  unfolding is_change
  no-generator-is p e = rw (le-leb c.kind dac_change p, le-ltb c.generator generators e)

  no-dac-is : c.kind ≡ dac_change → dacs ≤ c.value → is_change c ≡ false
  unfolding is_change
  no-dac-is p e = rw (p, le-ltb c.value dacs e) (and-false (ltb c.generator generators))

  module _ (k : Kept) (l : length m ≡ machine_length) where
    asked-two : {a b d : Bool} → valid Of1978 m ≡ a → is_change c ≡ b → valid Of1978 (changed_by m c) ≡ d → (a && (b && d)) ≡ false → (change_of m k c).number ≡ 2
    asked-two {a} {b} {d} p q r e = number_is k ∙ whole-asked m c l ∙ rw (p, q, r) (go a b d e)
      where
        go : (a b d : Bool) → (a && (b && d)) ≡ false → ◌≡◌ {A = ℕ} (cond a (cond b (cond d 0 2) 2) 2) 2
        go true true true q = absurd (true≢false q)
        go true true false q = refl
        go true false d q = refl
        go false b d q = refl

    pub two-for : Reason m c → (change_of m k c).number ≡ 2
    two-for (Reason.machine-fails e) = asked-two e refl refl refl
    two-for (Reason.no_kind e) = asked-two refl (no-kind-is e) refl (and-false (valid Of1978 m))
    two-for (Reason.no-generator p e) = asked-two refl (no-generator-is p e) refl (and-false (valid Of1978 m))
    two-for (Reason.no-dac p e) = asked-two refl (no-dac-is p e) refl (and-false (valid Of1978 m))
    two-for (Reason.change-fails e) = asked-two refl refl e (none (valid Of1978 m) (is_change c))
      where
        none : (a b : Bool) → (a && (b && false)) ≡ false
        none a b = rw (and-false b) (and-false a)

    pub reason-for : (change_of m k c).number ≡ 2 → Reason m c
    reason-for e = go (valid Of1978 m) refl (is_change c) refl (valid Of1978 (changed_by m c)) refl (sym (whole-asked m c l) ∙ sym (number_is k) ∙ e)
      where
        go : (a : Bool) → valid Of1978 m ≡ a → (b : Bool) → is_change c ≡ b → (d : Bool) → valid Of1978 (changed_by m c) ≡ d → ◌≡◌ {A = ℕ} (cond a (cond b (cond d 0 2) 2) 2) 2 → Reason m c
        go true p true q true r z = absurd (omega (arith, z))
        go true p true q false r z = Reason.change-fails r
        go true p false q d r z = no_change q
        go false p b q d r z = Reason.machine-fails p

    pub change-refused : ((change_of m k c).number ≡ 2) ↔ Reason m c
    change-refused = (reason-for, two-for)

  -- A change that isn't refused: the machine is the changed one, passes questions 1 and 2, and differs in the words of the change alone.
  module _ (k : Kept) (z : (change_of m k c).number ≡ 0) where
    made : change_refusal m c ≡ 0
    made = sym (number_is k) ∙ z

    pub made-machine : (change_of m k c).machine ≡ changed_by m c
    made-machine = (made-leaves k made).0

    pub made-whole : length (changed_by m c) ≡ machine_length
    made-whole = let p = none-refuses m c made in changed-whole m p.whole p.good c.kind c.generator c.value (through m c p)

    pub made-good : valid Of1978 (changed_by m c) ≡ true
    made-good = (none-refuses m c made).after

    pub made-elsewhere : (i : ℕ) → is_of c i ≡ false → get_or (changed_by m c) i 0 ≡ get_or m i 0
    made-elsewhere =
        let p = none-refuses m c made in
        change-elsewhere m c.kind c.generator c.value (few m p.whole p.good c.kind c.generator c.value (through m c p))

  -- A changed DAC number is GO's low 4 bits, and the others stay.
  module _ (k : Kept) (z : (change_of m k c).number ≡ 0) (dac : c.kind ≡ dac_change) where
    abbrev at : ℕ
    at = generator_at c.generator + GO

    dac-machine : changed_by m c ≡ set m at (get_or m at 0 / dacs * dacs + c.value)
    unfolding changed_by register_changed
    dac-machine = rw dac

    dac-fits : (c.generator < generators) × (c.value < dacs)
    unfolding is_change
    dac-fits = go (ltb c.generator generators) refl (ltb c.value dacs) refl (rw dac at (none-refuses m c (made k z)).is)
      where
        go : (a : Bool) → ltb c.generator generators ≡ a → (b : Bool) → ltb c.value dacs ≡ b → (a && b) ≡ true → (c.generator < generators) × (c.value < dacs)
        go true p true q e = (ltb-true c.generator generators p, ltb-true c.value dacs q)
        go true p false q e = absurd (true≢false (sym e))
        go false p b q e = absurd (true≢false (sym e))

    dac-word : get_or (changed_by m c) at 0 ≡ get_or m at 0 / dacs * dacs + c.value
    dac-word = ap (λ (n : Machine). get_or n at 0) dac-machine ∙ get_or-set_same m at (get_or m at 0 / dacs * dacs + c.value) 0 (omega (arith, (none-refuses m c (made k z)).whole, dac-fits.0))

    pub dac-changed : (get_or (changed_by m c) at 0 % dacs ≡ c.value) × (get_or (changed_by m c) at 0 / dacs ≡ get_or m at 0 / dacs)
    dac-changed = let low = dac-fits.1 in (omega (arith, dac-word, low), omega (arith, dac-word, low))

  -- Number and machine are the same whatever is handed in as kept.
  pub same-by-any : (k l : Kept) → ((change_of m k c).number ≡ (change_of m l c).number) × ((change_of m k c).machine ≡ (change_of m l c).machine)
  same-by-any k l = (number_is k ∙ sym (number_is l), go (eqb (change_refusal m c) 0) refl)
    where
      go : (b : Bool) → eqb (change_refusal m c) 0 ≡ b → (change_of m k c).machine ≡ (change_of m l c).machine
      go true e = let z = eqb-true (change_refusal m c) 0 e in (made-leaves k z).0 ∙ sym (made-leaves l z).0
      go false e =
          let n = eqb-false (change_refusal m c) 0 e in
          (refused-leaves k (λ z. n (sym (number_is k) ∙ z))).0 ∙ sym (refused-leaves l (λ z. n (sym (number_is l) ∙ z))).0

-- Lists of changes.
pub own-after-all : (m : Machine) (k : Kept) → k ≡ kept_of m → (cs : List Change) → (changes_of m k cs).kept ≡ kept_of (changes_of m k cs).machine
unfolding changes_of
own-after-all m k own [] = own
own-after-all m k own (c ∷ cs) = own-after-all (change_of m k c).machine (change_of m k c).kept (own-after m c k own) cs

good-after-all : (m : Machine) (k : Kept) → length m ≡ machine_length → valid Of1978 m ≡ true → (cs : List Change)
    → (length (changes_of m k cs).machine ≡ machine_length) × (valid Of1978 (changes_of m k cs).machine ≡ true)
unfolding changes_of
good-after-all m k whole good [] = (whole, good)
good-after-all m k whole good (c ∷ cs) =
    let next = good-after m c k whole good in
    good-after-all (change_of m k c).machine (change_of m k c).kept next.0 next.1 cs

pub changes-answer : (m : Machine) → length m ≡ machine_length → valid Of1978 m ≡ true → (cs : List Change)
    → ((changes_of m (kept_of m) cs).kept ≡ kept_of (changes_of m (kept_of m) cs).machine)
    × (get_or (changes_of m (kept_of m) cs).kept order_free_at 0 ≡ cond (any_order_of (changes_of m (kept_of m) cs).machine).alike 1 0)
changes-answer m whole good cs =
    let own = own-after-all m (kept_of m) refl cs in
    let after = good-after-all m (kept_of m) whole good cs in
    let n = (changes_of m (kept_of m) cs).machine in
    (own, ap (λ (k : Kept). get_or k order_free_at 0) own ∙ answer-own n (passed n after.0 after.1))

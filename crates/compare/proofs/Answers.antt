-- The questions of a compare, asked two by two, decide what it answers: one that passes them all whether the points agree, another no.
-- Assumes nothing.
use mathlib.Core.Path.{◌≡◌, refl}
use mathlib.Core.Logic.{◌≢◌}
use mathlib.Core.Bool.{Bool, true, false, cond}
use mathlib.Core.List.{[], ◌∷◌}
use Prim.Native.Nat.{ℕ}
use native.Mathlib.Omega.{arith}
use borrow.Author.Tests.{ne_eqb}
use Rattle.machine.specs.Questions.{question1, question2}
use Rattle.pass_order.specs.Order.{question5, question6}
use Rattle.compare_agreement.specs.Agreement.{settings_of}
use Rattle.compare_agreement.specs.Points.{agrees}
use Rattle.compare.specs.Compare.{Comparison, compare_refusal, compare_of}
use Rattle.base_questions.specs.Questions.{asked}
use Rattle.layout.specs.Machine.{Machine, Order, ticks_of}
use Rattle.layout_texts.specs.declared.Text.{Text}

module _ (text : Text) (m : Machine) (o₁ o₂ : Order) where
  -- A compare that is not refused has passed the questions of the machine and of each order.
  pub record ComparePassed : Type 0 where
    pub machine : asked (question1 m ∷ question2 text m ∷ []) ≡ 0
    pub first : asked (question5 (ticks_of m) o₁ ∷ question6 (ticks_of m) o₁ ∷ []) ≡ 0
    pub second : asked (question5 (ticks_of m) o₂ ∷ question6 (ticks_of m) o₂ ∷ []) ≡ 0

  pub compare-passes : compare_refusal text m o₁ o₂ ≡ 0 → ComparePassed
  unfolding compare_refusal asked
  compare-passes e =
      let q = go (question1 m).yes (question2 text m).yes (question5 (ticks_of m) o₁).yes (question6 (ticks_of m) o₁).yes (question5 (ticks_of m) o₂).yes (question6 (ticks_of m) o₂).yes e in
      record { machine = q.0; first = q.1; second = q.2 }
    where
      go : (a b c d f g : Bool) → ◌≡◌ {A = ℕ} (cond a (cond b (cond c (cond d (cond f (cond g 0 6) 5) 6) 5) 2) 1) 0
          → ◌≡◌ {A = ℕ} (cond a (cond b 0 2) 1) 0 × ◌≡◌ {A = ℕ} (cond c (cond d 0 6) 5) 0 × ◌≡◌ {A = ℕ} (cond f (cond g 0 6) 5) 0
      go true true true true true true p = (refl, refl, refl)
      go true true true true true false p = absurd (omega arith)
      go true true true true false g p = absurd (omega arith)
      go true true true false f g p = absurd (omega arith)
      go true true false d f g p = absurd (omega arith)
      go true false c d f g p = absurd (omega arith)
      go false b c d f g p = absurd (omega arith)

  -- A compare that is not refused answers whether the points agree, and a refused one says no.
  pub compare-number : (compare_of text m o₁ o₂).number ≡ compare_refusal text m o₁ o₂
  unfolding compare_of
  compare-number = refl

  pub compare-agrees : compare_refusal text m o₁ o₂ ≡ 0 → (compare_of text m o₁ o₂).equal ≡ agrees (settings_of text m) o₁ o₂
  unfolding compare_of
  compare-agrees e = rw e

  pub compare-refused : compare_refusal text m o₁ o₂ ≢ 0 → (compare_of text m o₁ o₂).equal ≡ false
  unfolding compare_of
  compare-refused n = rw (ne_eqb (compare_refusal text m o₁ o₂) 0 n)

  -- The answer by the number that the code finds: of a compare that is refused, and of one that is not.
  module _ {number : ℕ} (is : number ≡ compare_refusal text m o₁ o₂) where
    pub says-no : number ≢ 0 → ◌≡◌ {A = Comparison} (record { number = number; equal = false }) (compare_of text m o₁ o₂)
    unfolding compare_of
    says-no h = rw (← is, ne_eqb number 0 h)

    pub says-agrees : number ≡ 0 → {equal : Bool} → equal ≡ agrees (settings_of text m) o₁ o₂
        → ◌≡◌ {A = Comparison} (record { number = 0; equal = equal }) (compare_of text m o₁ o₂)
    unfolding compare_of
    says-agrees h e = rw (← is, h, e)

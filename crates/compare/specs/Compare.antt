-- The answer of a compare: its questions and whether the orders are equal (document 01, "Questions at the door").
-- Assumes nothing.
use Rattle.std.specs.Prelude.{ℕ, Bool, false, cond, [], ◌∷◌, eqb}
use Rattle.layout.specs.Machine.{Machine, Order, ticks_of}
use Rattle.layout_texts.specs.declared.Text.{Text}
use Rattle.base_questions.specs.Questions.{asked}
use Rattle.machine.specs.Questions.{question1, question2}
use Rattle.pass_order.specs.Order.{question5, question6}
use Rattle.compare_agreement.specs.Agreement.{settings_of}
use Rattle.compare_agreement.specs.Points.{agrees}

-- What compare answers: the number of the refusing question or 0, and whether the orders are equal. A refused compare says no.
pub record Comparison : Type 0 where
  pub number : ℕ
  pub equal : Bool

-- The questions of a compare, in sequence: 5 and 6 for each order, first then second.
unfoldable pub compare_refusal : Text → Machine → Order → Order → ℕ
compare_refusal text m o₁ o₂ =
    asked
    (question1 m
    ∷ question2 text m
    ∷ question5 (ticks_of m) o₁
    ∷ question6 (ticks_of m) o₁
    ∷ question5 (ticks_of m) o₂
    ∷ question6 (ticks_of m) o₂
    ∷ [])

-- The comparison of two orders.
unfoldable pub compare_of : Text → Machine → Order → Order → Comparison
compare_of text m o₁ o₂ =
    let n = compare_refusal text m o₁ o₂ in
    record { number = n; equal = cond (eqb n 0) (agrees (settings_of text m) o₁ o₂) false }

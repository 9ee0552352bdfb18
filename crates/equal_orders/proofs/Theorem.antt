-- Demand 3: two orders are equal exactly when they agree on the four points; and what a comparison says of them.
-- Assumes nothing.
use mathlib.Core.Path.{◌≡◌, sym, ◌∙◌}
use mathlib.Core.Logic.{◌↔◌, ◌≢◌}
use mathlib.Core.Bool.{true, false}
use mathlib.Core.List.{[], ◌∷◌}
use Rattle.base_questions.specs.Questions.{asked}
use Rattle.pass_order.specs.Order.{question5, question6}
use Rattle.pass_order.proofs.Entries.{order-passes}
use Rattle.pass_model.specs.Pass.{Call, by, pass_of}
use Rattle.pass_model.proofs.Asked.{is_whole, is-valid}
use Rattle.compare_agreement.specs.Agreement.{settings_of, Agree}
use Rattle.compare_agreement.specs.Points.{agrees}
use Rattle.compare_agreement.proofs.Agreed.{points-agree}
use Rattle.compare.specs.Compare.{compare_refusal, compare_of}
use Rattle.compare.proofs.Answers.{ComparePassed, compare-passes, compare-number, compare-agrees, compare-refused}
use Rattle.equal_orders.specs.Equal.{SameSettings, Equal}
use Rattle.equal_orders.specs.ButMarks.{SameButMarks}
use Rattle.equal_orders.proofs.Necessity.{equal-agreed}
use Rattle.equal_orders.proofs.Sufficiency.{agreed-but-marks, agreed-equal}
use Rattle.layout.specs.Machine.{Machine, Order, ticks_of}
use Rattle.layout_texts.specs.declared.Text.{Text}
use Rattle.pass_laws.specs.Good.{Good}

-- For orders that pass questions 5 and 6, on a machine that passes 1 and 2.
pub demand-3 : (text : Text) (m : Machine) → Good text m → (o₁ o₂ : Order)
    → asked (question5 (ticks_of m) o₁ ∷ question6 (ticks_of m) o₁ ∷ []) ≡ 0 → asked (question5 (ticks_of m) o₂ ∷ question6 (ticks_of m) o₂ ∷ []) ≡ 0
    → Equal text m o₁ o₂ ↔ Agree text m o₁ o₂
demand-3 text m good o₁ o₂ e₁ e₂ = (equal-agreed text m good o₁ o₂ e₁ e₂, agreed-equal text m good o₁ o₂ e₁ e₂)

-- Passes by two equal orders answer and leave the same but for the marks, whatever the call brings.
pub equal-but-marks : (text : Text) (m : Machine) → Good text m → (o₁ o₂ : Order)
    → asked (question5 (ticks_of m) o₁ ∷ question6 (ticks_of m) o₁ ∷ []) ≡ 0 → asked (question5 (ticks_of m) o₂ ∷ question6 (ticks_of m) o₂ ∷ []) ≡ 0 → Equal text m o₁ o₂
    → (n : Machine) → Good text n → SameSettings text m n → (call : Call) → SameButMarks (pass_of text n (by o₁ call)) (pass_of text n (by o₂ call))
equal-but-marks text m good o₁ o₂ e₁ e₂ equal = agreed-but-marks text m good o₁ o₂ e₁ e₂ (equal-agreed text m good o₁ o₂ e₁ e₂ equal)

-- A compare that is not refused says yes just where the orders are equal.
pub compare-says : (text : Text) (m : Machine) (o₁ o₂ : Order) → (compare_of text m o₁ o₂).number ≡ 0 → ((compare_of text m o₁ o₂).equal ≡ true) ↔ Equal text m o₁ o₂
compare-says text m o₁ o₂ n = (λ e. demand.1 (points.0 (sym answer ∙ e)), λ e. answer ∙ points.1 (demand.0 e))
  where
    none : compare_refusal text m o₁ o₂ ≡ 0
    none = sym (compare-number text m o₁ o₂) ∙ n

    passed : ComparePassed text m o₁ o₂
    passed = compare-passes text m o₁ o₂ none

    answer : (compare_of text m o₁ o₂).equal ≡ agrees (settings_of text m) o₁ o₂
    answer = compare-agrees text m o₁ o₂ none

    points : (agrees (settings_of text m) o₁ o₂ ≡ true) ↔ Agree text m o₁ o₂
    points = points-agree (settings_of text m) o₁ o₂ (order-passes (ticks_of m) o₁ passed.first) (order-passes (ticks_of m) o₂ passed.second)

    demand : Equal text m o₁ o₂ ↔ Agree text m o₁ o₂
    demand =
        demand-3 text m (record { whole = is_whole text m o₁ passed.machine; is-valid = is-valid text m o₁ passed.machine }) o₁ o₂ passed.first passed.second

-- A refused compare says no.
pub refused-says-no : (text : Text) (m : Machine) (o₁ o₂ : Order) → (compare_of text m o₁ o₂).number ≢ 0 → (compare_of text m o₁ o₂).equal ≡ false
refused-says-no text m o₁ o₂ n = compare-refused text m o₁ o₂ (λ e. n (compare-number text m o₁ o₂ ∙ e))

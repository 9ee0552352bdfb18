-- The answer of the call that asks whether every order leaves the same (document 02, Q-2).
-- Assumes nothing.
use Rattle.std.specs.Prelude.{ℕ, Bool, false, cond, [], ◌∷◌, eqb}
use Rattle.layout.specs.Machine.{Machine}
use Rattle.layout_texts.specs.declared.Text.TheVariants.{Of1978}
use Rattle.base_questions.specs.Questions.{asked}
use Rattle.machine.specs.Questions.{question1, question2}
use Rattle.compare_agreement.specs.Agreement.{settings_of}
use Rattle.any_order_model.specs.OrderFree.{counts_in, order_free}

-- What the call answers: the number of the refusing question or 0, and whether every order leaves the same. Refused, it says no.
pub record AnyOrderAnswer : Type 0 where
  pub number : ℕ
  pub alike : Bool

-- The questions of the call: 1 and 2.
unfoldable pub any_order_refusal : Machine → ℕ
any_order_refusal m = asked (question1 m ∷ question2 Of1978 m ∷ [])

-- Whether every order leaves the same, by the rule.
unfoldable pub any_order_of : Machine → AnyOrderAnswer
any_order_of m =
    let n = any_order_refusal m in
    record { number = n; alike = cond (eqb n 0) (order_free (counts_in (settings_of Of1978 m))) false }

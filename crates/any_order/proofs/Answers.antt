-- The questions decide what is answered: a machine that passes both by the rule, another no.
-- Assumes nothing.
use mathlib.Core.Path.{◌≡◌, refl}
use mathlib.Core.Logic.{◌≢◌}
use mathlib.Core.Bool.{Bool, true, false}
use mathlib.Core.List.{[], ◌∷◌}
use Prim.Native.Nat.{ℕ}
use borrow.Author.Tests.{ne_eqb}
use lib.ListN.{length}
use Rattle.layout.specs.Layout.{machine_length}
use Rattle.layout.specs.Machine.{Machine}
use Rattle.layout_texts.specs.declared.Text.TheVariants.{Of1978}
use Rattle.base_questions.specs.Questions.{asked}
use Rattle.machine.specs.Questions.{question1, question2, valid}
use Rattle.machine.proofs.Asked.{machine-passes}
use Rattle.machine.proofs.ValidMachine.{reaches, valid-generator, valid-controls}
use Rattle.compare_agreement.specs.Agreement.{settings_of}
use Rattle.any_order_model.specs.OrderFree.{counts_in, order_free}
use Rattle.any_order_counts.specs.AsCoded.{Countable}
use Rattle.any_order.specs.AnyOrder.{AnyOrderAnswer, any_order_refusal, any_order_of}

-- The generators of a machine that passes questions 1 and 2 can be counted.
pub valid-countable : (m : Machine) → length m ≡ machine_length → valid Of1978 m ≡ true → Countable m
valid-countable m whole good =
    record {
      reaches = reaches m whole;
      ticks = (valid-controls Of1978 m good).t_high;
      gsums = λ g h. (valid-generator Of1978 m good g h).gsum;
      gfms = λ g h. (valid-generator Of1978 m good g h).gfm;
    }

pub is-countable : (m : Machine) → asked (question1 m ∷ question2 Of1978 m ∷ []) ≡ 0 → Countable m
is-countable m e = let passed = machine-passes Of1978 m e in valid-countable m passed.0 passed.1

module _ (m : Machine) where
  -- One that is not refused is answered by the rule, and a refused one no.
  pub any-number : (any_order_of m).number ≡ asked (question1 m ∷ question2 Of1978 m ∷ [])
  unfolding any_order_of any_order_refusal
  any-number = refl

  pub any-rule : asked (question1 m ∷ question2 Of1978 m ∷ []) ≡ 0 → (any_order_of m).alike ≡ order_free (counts_in (settings_of Of1978 m))
  unfolding any_order_of any_order_refusal
  any-rule e = rw e

  pub any-refused : asked (question1 m ∷ question2 Of1978 m ∷ []) ≢ 0 → (any_order_of m).alike ≡ false
  unfolding any_order_of any_order_refusal
  any-refused n = rw (ne_eqb (asked (question1 m ∷ question2 Of1978 m ∷ [])) 0 n)

  -- The answer by the number that the code finds.
  module _ {number : ℕ} (is : number ≡ asked (question1 m ∷ question2 Of1978 m ∷ [])) where
    pub says-no : number ≢ 0 → ◌≡◌ {A = AnyOrderAnswer} (record { number = number; alike = false }) (any_order_of m)
    unfolding any_order_of any_order_refusal
    says-no h = rw (← is, ne_eqb number 0 h)

    pub says-rule : number ≡ 0 → {holds : Bool} → holds ≡ order_free (counts_in (settings_of Of1978 m)) → ◌≡◌ {A = AnyOrderAnswer} (record { number = 0; alike = holds }) (any_order_of m)
    unfolding any_order_of any_order_refusal
    says-rule h e = rw (← is, h, e)

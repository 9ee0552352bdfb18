-- What is heard from a machine that questions 1 and 2 refuse is the same by every ordering.
-- Assumes nothing.
use mathlib.Core.Path.{◌≡◌, refl, sym, ◌∙◌}
use mathlib.Core.Logic.{◌≢◌}
use mathlib.Core.List.{[], ◌∷◌}
use Prim.Native.Nat.{ℕ, zero, suc}
use borrow.Author.Tests.{ne_eqb}
use Rattle.layout.specs.Machine.{Machine, Memory, Commands}
use Rattle.layout_texts.specs.declared.Text.{Text}
use Rattle.base_questions.specs.Questions.{asked}
use Rattle.machine.specs.Questions.{question1, question2}
use Rattle.ring_pass.specs.BenchPass.{Ordering, passed}
use Rattle.ring_pass.proofs.Asked.{refused-machine}
use Rattle.ring_steps.specs.Heard.{heard_refused, heard}

module _ (text : Text) (m : Machine) (memory : Memory) (commands : Commands) (h : asked (question1 m ∷ question2 text m ∷ []) ≢ 0) where
  number_is : (by : Ordering) → asked (question1 m ∷ question2 text m ∷ []) ≡ (passed text by m memory).number
  number_is by = refused-machine text by m memory refl h

  refused-heard : (by : Ordering) (n : ℕ) → heard text by (suc n) m memory commands ≡ heard_refused (asked (question1 m ∷ question2 text m ∷ []))
  unfolding heard
  refused-heard by n = rw (← (number_is by), ne_eqb (asked (question1 m ∷ question2 text m ∷ [])) 0 h)

  pub any-ordering : (by₁ by₂ : Ordering) (n : ℕ) → heard text by₁ n m memory commands ≡ heard text by₂ n m memory commands
  unfolding heard
  any-ordering by₁ by₂ zero = refl
  any-ordering by₁ by₂ (suc n) = refused-heard by₁ n ∙ sym (refused-heard by₂ n)

-- Two orders that agree are equal: passes by them are refused alike, or their generators leave the same.
-- Assumes nothing.
use mathlib.Core.Path.{◌≡◌, refl, ap, ◌∙◌}
use mathlib.Core.Bool.{Bool, true, false}
use borrow.Author.Tests.{eqb-true, eqb-false}
use lib.Dec.{eqb}
use Rattle.pass_model.specs.Pass.{Call, by, Outcome, written_data, pass_refusal, pass_of}
use Rattle.pass_model.proofs.Asked.{same-refusal}
use Rattle.layout.specs.Machine.{Machine, Order, ticks_of}
use Rattle.layout_texts.specs.declared.Text.{Text}
use Rattle.pass_order.proofs.Entries.{order-passes}
use Rattle.pass_model.specs.Generators.{generators_of}
use Rattle.pass_laws.specs.Good.{Good}
use Rattle.compare_agreement.specs.Agreement.{settings_of, Agree}
use Rattle.equal_endings.specs.AsCoded.{taken_in}
use Rattle.equal_endings.proofs.Same.{agreed-taken}
use Rattle.equal_orders.specs.Equal.{SameSettings, SameEnd, Equal}
use Rattle.equal_orders.specs.ButMarks.{SameButMarks}
use Rattle.equal_orders.proofs.Finished.{OrderPasses, pass-let, refused_end, same_end}
use Rattle.equal_orders.proofs.Settings.{follows}

-- What is the same but for the marks ends the same.
but-marks-end : (r s : Outcome) → SameButMarks r s → SameEnd r s
but-marks-end r s e = record { machine = ap (λ (o : Outcome). o.machine) e; memory = ap (λ (o : Outcome). o.memory) e; written = ap (λ (o : Outcome). written_data o) e }

-- Passes by two orders that agree answer and leave the same but for the marks, whatever the call brings.
pub agreed-but-marks : (text : Text) (m : Machine) → Good text m → (o₁ o₂ : Order) → OrderPasses (ticks_of m) o₁ → OrderPasses (ticks_of m) o₂ → Agree text m o₁ o₂
    → (n : Machine) → Good text n → SameSettings text m n → (call : Call) → SameButMarks (pass_of text n (by o₁ call)) (pass_of text n (by o₂ call))
agreed-but-marks text m good o₁ o₂ p₁ p₂ ag n goodn s call = go (eqb (pass_refusal text n (by o₁ call)) 0) refl
  where
    q₁ : OrderPasses (ticks_of n) o₁
    q₁ = rw (← s.ticks) p₁

    q₂ : OrderPasses (ticks_of n) o₂
    q₂ = rw (← s.ticks) p₂

    alike : pass_refusal text n (by o₂ call) ≡ pass_refusal text n (by o₁ call)
    alike = same-refusal text n call o₂ o₁ q₂ q₁

    go : (b : Bool) → eqb (pass_refusal text n (by o₁ call)) 0 ≡ b → SameButMarks (pass_of text n (by o₁ call)) (pass_of text n (by o₂ call))
    go true z =
        let none = eqb-true (pass_refusal text n (by o₁ call)) 0 z in
        let same = agreed-taken (generators_of text) (settings_of text m) n (follows text m n s good goodn) call.items call.places o₁ o₂ (order-passes (ticks_of m) o₁ p₁) (order-passes (ticks_of m) o₂ p₂) ag in
        rw (pass-let text n o₁ call none, pass-let text n o₂ call (alike ∙ none))
        (same_end text n call o₁ o₂ (taken_in (generators_of text) n call.items call.places o₁) (taken_in (generators_of text) n call.items call.places o₂) same)
    go false z = refused_end text n call o₁ o₂ (pass_refusal text n (by o₁ call)) refl alike (eqb-false (pass_refusal text n (by o₁ call)) 0 z)

pub agreed-equal : (text : Text) (m : Machine) → Good text m → (o₁ o₂ : Order) → OrderPasses (ticks_of m) o₁ → OrderPasses (ticks_of m) o₂ → Agree text m o₁ o₂ → Equal text m o₁ o₂
agreed-equal text m good o₁ o₂ p₁ p₂ ag n goodn s call e =
    but-marks-end (pass_of text n (by o₁ call)) (pass_of text n (by o₂ call)) (agreed-but-marks text m good o₁ o₂ p₁ p₂ ag n goodn s call)

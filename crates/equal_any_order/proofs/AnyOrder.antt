-- The rule holds just where every two orders are equal, and what the call says of them.
-- Assumes nothing.
use mathlib.Core.Path.{◌≡◌, refl, sym, ◌∙◌}
use mathlib.Core.Logic.{◌↔◌, ◌≢◌}
use mathlib.Core.Bool.{Bool, true, false}
use mathlib.Core.List.{[], ◌∷◌}
use Prim.Native.Nat.{◌≤◌}
use native.Mathlib.Omega.{arith}
use borrow.Author.Tests.{eq-eqb}
use lib.Seq.{ext_get_or}
use Rattle.layout.specs.Machine.{Machine, Order, ticks_of, gsum_at}
use Rattle.layout_texts.specs.Texts.{run_mode_at}
use Rattle.layout_texts.specs.declared.Text.TheVariants.{Of1978}
use Rattle.base_questions.specs.Questions.{asked}
use Rattle.machine.specs.Questions.{question1, question2}
use Rattle.layout_modes.proofs.RunModes.{replaces-alone}
use Rattle.pass_order.specs.Order.{IsOrder}
use Rattle.pass_order.proofs.Entries.{order-passes, passes-order}
use Rattle.pass_laws.specs.Good.{Good}
use Rattle.machine.proofs.Asked.{machine-passes}
use Rattle.machine.proofs.ValidMachine.{valid-generator, valid-controls}
use Rattle.compare_agreement.specs.Agreement.{settings_of}
use Rattle.any_order_model.specs.OrderFree.{counts_in, order_free}
use Rattle.any_order_model.specs.Clauses.{Clauses}
use Rattle.any_order_model.specs.Parting.{parting_orders}
use Rattle.any_order_model.proofs.Clauses.{Separate, clauses}
use Rattle.any_order_model.proofs.EveryOrder.{every-order}
use Rattle.any_order_model.proofs.Telling.{Part, orders-part}
use Rattle.any_order_model.proofs.Rule.{rule-clauses}
use Rattle.any_order.specs.AnyOrder.{any_order_of}
use Rattle.any_order.proofs.Answers.{any-number, any-rule, any-refused}
use Rattle.equal_orders.specs.Equal.{Equal}
use Rattle.equal_orders.proofs.Theorem.{demand-3}
use Rattle.equal_any_order.specs.EveryOrder.{Passes, EveryTwoEqual, Apart}

module _ (m : Machine) (good : Good Of1978 m) where
  -- The generators of the 1978 text.
  separate : Separate (settings_of Of1978 m)
  separate =
      record {
        apart = omega arith;
        exclusive = λ g. replaces-alone (run_mode_at Of1978 m g);
        sourced = λ g l. (valid-generator Of1978 m good.is-valid g (omega (arith, few))).gfm;
        worded = λ g l.
            record {
              at = gsum_at m g;
              below = (valid-generator Of1978 m good.is-valid g (omega (arith, few))).gsum;
              passes = eq-eqb (gsum_at m g) (gsum_at m g) refl;
            };
      }
    where
      few : ticks_of m ≤ 256
      few = (valid-controls Of1978 m good.is-valid).t_high

  -- Where the rule fails, the two orders are orders that are not equal.
  part : order_free (counts_in (settings_of Of1978 m)) ≡ false → Part (settings_of Of1978 m)
  part = orders-part (settings_of Of1978 m) separate

  abbrev first : Order
  first = (parting_orders (settings_of Of1978 m)).first

  abbrev second : Order
  second = (parting_orders (settings_of Of1978 m)).second

  first_passes : order_free (counts_in (settings_of Of1978 m)) ≡ false → Passes m first
  first_passes e = passes-order (ticks_of m) first (part e).first

  second-passes : order_free (counts_in (settings_of Of1978 m)) ≡ false → Passes m second
  second-passes e = passes-order (ticks_of m) second (part e).second

  not_equal : order_free (counts_in (settings_of Of1978 m)) ≡ false → Equal Of1978 m first second → ⊥
  not_equal e eq = (part e).disagree ((demand-3 Of1978 m good first second (first_passes e) (second-passes e)).0 eq)

  -- The rule holds just where every two orders are equal.
  pub rule-is : (order_free (counts_in (settings_of Of1978 m)) ≡ true) ↔ EveryTwoEqual m
  rule-is = (holds, go (order_free (counts_in (settings_of Of1978 m))) refl)
    where
      holds : order_free (counts_in (settings_of Of1978 m)) ≡ true → EveryTwoEqual m
      holds e o₁ o₂ p₁ p₂ =
          (demand-3 Of1978 m good o₁ o₂ p₁ p₂).1
          (every-order (settings_of Of1978 m) (clauses (settings_of Of1978 m) separate e) o₁ o₂ (order-passes (ticks_of m) o₁ p₁) (order-passes (ticks_of m) o₂ p₂))

      go : (b : Bool) → order_free (counts_in (settings_of Of1978 m)) ≡ b → EveryTwoEqual m → b ≡ true
      go true e every = refl
      go false e every = absurd (not_equal e (every first second (first_passes e) (second-passes e)))

-- A machine whose call is not refused passes questions 1 and 2.
module _ (m : Machine) (n : (any_order_of m).number ≡ 0) where
  none : asked (question1 m ∷ question2 Of1978 m ∷ []) ≡ 0
  none = sym (any-number m) ∙ n

  good : Good Of1978 m
  good = let passed = machine-passes Of1978 m none in record { whole = passed.0; is-valid = passed.1 }

  -- It says yes just where every two orders are equal.
  pub any-order-says : ((any_order_of m).alike ≡ true) ↔ EveryTwoEqual m
  any-order-says = (λ e. (rule-is m good).0 (sym (any-rule m none) ∙ e), λ every. any-rule m none ∙ (rule-is m good).1 every)

  -- And just where the clauses of the rule hold.
  pub any-order-rule : ((any_order_of m).alike ≡ true) ↔ Clauses (settings_of Of1978 m)
  any-order-rule =
      let rule = rule-clauses (settings_of Of1978 m) (separate m good) in
      (λ e. rule.0 (sym (any-rule m none) ∙ e), λ c. any-rule m none ∙ rule.1 c)

  -- Where it says no, the two orders that it names pass questions 5 and 6 and are not equal.
  pub orders-apart : (any_order_of m).alike ≡ false → Apart m (parting_orders (settings_of Of1978 m)).first (parting_orders (settings_of Of1978 m)).second
  orders-apart e =
      let fails = sym (any-rule m none) ∙ e in
      record { first = first_passes m good fails; second = second-passes m good fails; parted = not_equal m good fails }

  -- With one generator it says yes: there is one order.
  pub one-order : ticks_of m ≡ 1 → (any_order_of m).alike ≡ true
  one-order one = any-order-says.1 (λ o₁ o₂ p₁ p₂. rw (same o₁ o₂ p₁ p₂) (equal-itself o₂))
    where
      equal-itself : (o : Order) → Equal Of1978 m o o
      equal-itself o k g s call enough = record { machine = refl; memory = refl; written = refl }

      same : (o₁ o₂ : Order) → Passes m o₁ → Passes m o₂ → o₁ ≡ o₂
      same o₁ o₂ p₁ p₂ = ext_get_or 0 o₁ o₂ (is₁.entries ∙ sym is₂.entries) (λ i l. omega (arith, is₁.below i l, is₂.below i (omega (arith, is₁.entries, is₂.entries)), one))
        where
          is₁ : IsOrder (ticks_of m) o₁
          is₁ = order-passes (ticks_of m) o₁ p₁

          is₂ : IsOrder (ticks_of m) o₂
          is₂ = order-passes (ticks_of m) o₂ p₂

-- A refused call says no.
pub any-order-refused : (m : Machine) → (any_order_of m).number ≢ 0 → (any_order_of m).alike ≡ false
any-order-refused m n = any-refused m (λ e. n (any-number m ∙ e))

-- A pass is refused and leaves all as it was, or it has passed its questions and is what the stages leave.
-- Assumes nothing.
use mathlib.Core.Path.{◌≡◌, refl, sym}
use mathlib.Core.Bool.{Bool, true, false, cond}
use mathlib.Core.List.{[], ◌∷◌}
use Prim.Native.Nat.{ℕ, ◌≤◌, ◌<◌}
use borrow.Author.Tests.{eq-eqb, eqb-true}
use lib.Dec.{eqb}
use lib.ListN.{length, get_or}
use Rattle.layout.specs.Layout.{machine_length}
use Rattle.layout.specs.Machine.{Machine, Order, Sums, Places, ticks_of}
use Rattle.layout_texts.specs.declared.Text.{Text}
use Rattle.base_questions.specs.Questions.{asked}
use Rattle.machine.specs.Questions.{question1, question2}
use Rattle.pass_order.specs.Order.{IsOrder}
use Rattle.pass_order.proofs.Entries.{order-passes}
use Rattle.pass_sums.specs.Sums.{sums_of}
use Rattle.pass_model.specs.Generators.{generators_of, State, steps, begun, taken_by}
use Rattle.pass_model.specs.Modifiers.{Held}
use Rattle.pass_model.specs.Pass.{Call, Outcome, completed, generators_taken, finished, ran, refused, pass_refusal, pass_of}
use Rattle.pass_model.proofs.Asked.{passes, is-valid, is_whole, few-ticks, entries_below}
use Rattle.pass_laws.specs.Good.{Good}

-- What a machine and an order that are let through are.
pub record Admitted (text : Text) (m : Machine) (order : Order) : Type 0 where
  pub good : Good text m
  pub ticks : ticks_of m ≤ 256
  pub is-order : IsOrder (ticks_of m) order
  pub below : (i : ℕ) → i < length order → get_or order i 0 < 256

-- A good machine passes questions 1 and 2.
pub good-passes : (text : Text) (m : Machine) → Good text m → asked (question1 m ∷ question2 text m ∷ []) ≡ 0
unfolding asked
good-passes text m good = rw (eq-eqb (length m) machine_length good.whole, good.is-valid)

-- As a pass begins: its words and sum memory.
module _ (m : Machine) (sums : Sums) (places : Places) where
  pub begun-words : (begun m sums places).words ≡ m
  unfolding begun
  begun-words = refl

  pub begun-sums : (begun m sums places).sums ≡ sums
  unfolding begun
  begun-sums = refl

-- The state after the generators.
abbrev pub generators_done : (text : Text) → Machine → Call → State
generators_done text m call = steps (generators_of text) call.items (begun m (sums_of m) call.places) call.order

module _ (text : Text) (m : Machine) (call : Call) where
  pub admitted : pass_refusal text m call ≡ 0 → Admitted text m call.order
  admitted e =
      let q = passes text m call e in
      record {
        good = record { whole = is_whole text m call.order q.whole; is-valid = is-valid text m call.order q.whole };
        ticks = few-ticks text m call.order q.whole;
        is-order = order-passes (ticks_of m) call.order q.ordered;
        below = entries_below text m call.order q.whole q.ordered;
      }

  -- What holds of a refused pass and of one that is let through holds of every pass.
  pub pass-by : (P : Outcome → Type 0) → P (refused (pass_refusal text m call) m call) → (pass_refusal text m call ≡ 0 → P (ran text m call)) → P (pass_of text m call)
  unfolding pass_of
  pass-by P stays goes = go (eqb (pass_refusal text m call) 0) refl
    where
      go : (b : Bool) → eqb (pass_refusal text m call) 0 ≡ b → P (cond b (ran text m call) (refused (pass_refusal text m call) m call))
      go true e = goes (eqb-true (pass_refusal text m call) 0 e)
      go false e = stays

  -- A pass that is let through.
  pub let_through : pass_refusal text m call ≡ 0 → pass_of text m call ≡ ran text m call
  unfolding pass_of
  let_through e = rw e

  pub refused-machine : (refused (pass_refusal text m call) m call).machine ≡ m
  unfolding refused
  refused-machine = refl

  -- A pass answers the number of the refusing question or 0.
  pub pass-number : (pass_of text m call).number ≡ pass_refusal text m call
  unfolding ran finished refused
  pass-number = pass-by (λ (r : Outcome). r.number ≡ pass_refusal text m call) refl (λ e. sym e)

  -- The words and the delay memory that the modifiers begin with.
  abbrev pub held_then : Held
  held_then = record { words = (generators_done text m call).words; memory = call.memory }

  pub ran-memory : (ran text m call).memory ≡ (completed text (ticks_of m) held_then (generators_done text m call).sums).memory
  unfolding ran finished generators_taken taken_by
  ran-memory = refl

  pub refused-memory : (refused (pass_refusal text m call) m call).memory ≡ call.memory
  unfolding refused
  refused-memory = refl

  pub ran-machine : (ran text m call).machine ≡ (completed text (ticks_of m) held_then (generators_done text m call).sums).words
  unfolding ran finished generators_taken taken_by
  ran-machine = refl

  pub ran-read : (ran text m call).read ≡ (generators_done text m call).reads
  unfolding ran finished generators_taken taken_by
  ran-read = refl

  pub ran-written : (ran text m call).written ≡ (generators_done text m call).writes
  unfolding ran finished generators_taken taken_by
  ran-written = refl

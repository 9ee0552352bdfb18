-- The answers that a step keeps: a pass that is let through, and an update that takes no command, leave a machine whose next pass is let through too.
-- Assumes nothing.
use mathlib.Core.Path.{◌≡◌, refl, sym, ◌∙◌, ap}
use mathlib.Core.Logic.{◌≢◌}
use mathlib.Core.Bool.{Bool, true, false}
use mathlib.Core.List.{[], ◌∷◌}
use Prim.Native.Nat.{ℕ, ◌-◌, ◌≤◌}
use native.Mathlib.Omega.{arith}
use borrow.Author.Tests.{eqb-true, eqb-false}
use lib.Dec.{eqb, lit≤, lit<}
use lib.ListN.{length}
use lib.Seq.{get_or-set_other}
use Rattle.layout.specs.Layout.{t_at, lingering_at}
use Rattle.layout.specs.Machine.{Machine, Memory, Commands, ticks_of}
use Rattle.layout_texts.specs.declared.Text.{Text}
use Rattle.base_questions.specs.Questions.{asked}
use Rattle.layout_modes.specs.Modes.{wait, running_c, read_data, write_data}
use Rattle.machine.specs.Questions.{question1, question2}
use Rattle.machine.proofs.ValidMachine.{valid-controls}
use Rattle.pass_order.specs.Order.{in_mode}
use Rattle.pass_model.specs.Pass.{unit_questions, Outcome as Passed}
use Rattle.delay_questions.specs.Questions.{memory_good}
use Rattle.pass_model.proofs.Asked.{is-valid, is_whole, refusal-leaves}
use Rattle.pass_laws.specs.Good.{Good}
use Rattle.pass_laws.proofs.Passing.{good-passes, pass-number}
use Rattle.pass_laws.proofs.PassDelays.{pass-memory, pass-units, units-set}
use Rattle.pass_laws.proofs.PassModes.{pass-modes, set-modes}
use Rattle.pass_laws.proofs.PassSettings.{pass-settings}
use Rattle.pass_laws.proofs.PassValid.{pass-valid}
use Rattle.command_update.specs.Update.{UpdateOutcome}
use Rattle.ring_pass.specs.BenchPass.{Ordering, bench_call, passed, order_asked}
use Rattle.ring_pass.proofs.Asked.{answered, ticks-most, data-none, units-decide}
use Rattle.ring_steps.specs.AsCoded.{taken_after, Known, Ringing, step_of, commands_taken}
use Rattle.ring_steps.specs.declared.Output.{Output}
use Rattle.ring_steps.specs.Heard.{update_after}
use Rattle.ring_steps.proofs.Updates.{update-after-valid, update-after-length, none_after}
use Rattle.ring_steps.proofs.Turns.{by-pass, by-update, by_both}

-- A refused pass leaves its machine and delay memory.
pub refused-stays : (text : Text) (by : Ordering) (m : Machine) (memory : Memory) → (passed text by m memory).number ≢ 0 → (m ≡ (passed text by m memory).machine) × (memory ≡ (passed text by m memory).memory)
refused-stays text by m memory h =
    let stays = refusal-leaves text m (bench_call by m memory) (λ e. h (pass-number text m (bench_call by m memory) ∙ e)) in
    (sym stays.0, sym stays.2)

good_of : (text : Text) (m : Machine) → asked (question1 m ∷ question2 text m ∷ []) ≡ 0 → Good text m
good_of text m q = record { whole = is_whole text m [] q; is-valid = is-valid text m [] q }

-- After a pass that is let through.
module _ (text : Text) (by : Ordering) (m : Machine) (memory : Memory) (n : (passed text by m memory).number ≡ 0) where
  abbrev last : Machine
  last = (passed text by m memory).machine

  abbrev last_memory : Memory
  last_memory = (passed text by m memory).memory

  good-last : Good text last
  good-last = pass-valid text m (bench_call by m memory) (good_of text m (answered text by m memory n).whole)

  pub last-passes : asked (question1 last ∷ question2 text last ∷ []) ≡ 0
  last-passes = good-passes text last good-last

  pub memory-passes : memory_good last_memory ≡ true
  memory-passes = pass-memory text m (bench_call by m memory) (answered text by m memory n).memory

  few : ticks_of m ≤ 256
  few = ticks-most text by m memory n

  -- T stays.
  ticks-last : ticks_of last ≡ ticks_of m
  ticks-last = (pass-settings text m (bench_call by m memory)).t

  few-last : ticks_of last ≤ 256
  few-last = (valid-controls text last good-last.is-valid).t_high

  -- It has no generator that reads or writes data below T.
  same-mode : (mode : ℕ) → eqb mode wait ≡ false → eqb mode running_c ≡ false → in_mode text m mode ≤ 0 → in_mode text last mode ≤ 0
  same-mode mode a b h =
      omega (arith, pass-modes text m (bench_call by m memory) mode few (eqb-false mode wait a) (eqb-false mode running_c b))

  -- Its delay units pass questions 11 and 12.
  units-last : asked (unit_questions text last) ≡ 0
  units-last = pass-units text m (bench_call by m memory) few (answered text by m memory n).units

  module _ (cs : Commands) where
    abbrev then : Machine
    then = (update_after text last cs).machine

    good-then : Good text then
    good-then = record { whole = update-after-length text last cs ∙ good-last.whole; is-valid = update-after-valid text last cs good-last.is-valid }

    pub then-passes : asked (question1 then ∷ question2 text then ∷ []) ≡ 0
    then-passes = good-passes text then good-then

    then-ticks : taken_after text last cs ≡ 0 → ticks_of then ≡ ticks_of m
    then-ticks e =
        none_after text (λ l. ticks_of l ≡ ticks_of m) last cs e ticks-last (get_or-set_other last lingering_at t_at 0 0 (eqb-false t_at lingering_at refl) ∙ ticks-last)

    then-mode : (mode : ℕ) → taken_after text last cs ≡ 0 → in_mode text last mode ≤ 0 → in_mode text then mode ≤ 0
    then-mode mode e h =
        none_after text (λ l. in_mode text l mode ≤ 0) last cs e h
        (omega (arith, set-modes text last lingering_at 0 mode few-last (lit≤ tt) (eqb-false lingering_at t_at refl)))

    then-units : taken_after text last cs ≡ 0 → asked (unit_questions text then) ≡ 0
    then-units e =
        none_after text (λ l. asked (unit_questions text l) ≡ 0) last cs e units-last (rw (units-set text last lingering_at 0 few-last (lit≤ tt) (lit< tt) (eqb-false t_at lingering_at refl)) units-last)

    -- Its order is as before, since T is.
    then-ordered : taken_after text last cs ≡ 0 → order_asked by then ≡ 0
    then-ordered e = rw (then-ticks e) (answered text by m memory n).ordered

    pub then-goes : taken_after text last cs ≡ 0 → 0 ≡ (passed text by then last_memory).number
    then-goes e =
        units-decide text by then last_memory then-passes (then-ordered e)
        (sym (data-none text then (then-mode read_data e (same-mode read_data refl refl (answered text by m memory n).reads))
        (then-mode write_data e (same-mode write_data refl refl (answered text by m memory n).writes))))
        memory-passes (sym (then-units e))

-- A step, by whether its pass is let through.
module _ (text : Text) (by : Ordering) (o : Output) (r : Ringing) (some : r.passes ≢ 0) where
  abbrev pass : Passed
  pass = passed text by r.machine r.memory

  record AfterUpdate : Type 0 where
    machine : (step_of text by o r).next.machine ≡ (update_after text pass.machine r.commands).machine
    commands : (step_of text by o r).next.commands ≡ (update_after text pass.machine r.commands).rest
    memory : (step_of text by o r).next.memory ≡ pass.memory

  after-update : pass.number ≡ 0 → AfterUpdate
  after-update z = go (eqb (update_after text pass.machine r.commands).number 0) refl
    where
      u : UpdateOutcome
      u = update_after text pass.machine r.commands

      go : (b : Bool) → eqb u.number 0 ≡ b → AfterUpdate
      go true e = let s = by_both text by o r some z (eqb-true u.number 0 e) in record { machine = rw s refl; commands = rw s refl; memory = rw s refl }
      go false e = let s = by-update text by o r some z (eqb-false u.number 0 e) in record { machine = rw s refl; commands = rw s refl; memory = rw s refl }

  pub step-known : {n : ℕ} {took : Bool} → n ≡ pass.number → (took ≡ false → commands_taken r (step_of text by o r) ≡ 0) → (took ≡ true → commands_taken r (step_of text by o r) ≢ 0)
      → Known text by (step_of text by o r).next.machine (step_of text by o r).next.memory n took
  step-known {n} {took} en none one = go (eqb n 0) refl
    where
      go : (b : Bool) → eqb n 0 ≡ b → Known text by (step_of text by o r).next.machine (step_of text by o r).next.memory n took
      go true e =
          let z : pass.number ≡ 0 = sym en ∙ eqb-true n 0 e in
          let s = after-update z in
          rw (s.machine, s.memory)
          (record {
            as_before = λ t. eqb-true n 0 e ∙ then-goes text by r.machine r.memory z r.commands (ap (λ (l : Commands). length r.commands - length l) (sym s.commands) ∙ none t);
            good = λ t. then-passes text by r.machine r.memory z r.commands;
            memory-good = λ t. memory-passes text by r.machine r.memory z;
          })
      go false e =
          let h : pass.number ≢ 0 = λ q. eqb-false n 0 e (en ∙ q) in
          let s = by-pass text by o r some h in
          let stays = refused-stays text by r.machine r.memory h in
          rw s
          (record {
            as_before = λ t. en ∙ ap (λ (l : Machine). (passed text by l r.memory).number) stays.0 ∙ ap (λ (l : Memory). (passed text by pass.machine l).number) stays.1;
            good = λ t. absurd (one t (rw s (omega arith)));
            memory-good = λ t. absurd (one t (rw s (omega arith)));
          })

-- A block under way: what one step does of a ringing, and that from each stage the block ends as from its start.
-- Assumes nothing.
use mathlib.Core.Path.{◌≡◌, refl, sym, ap, ◌∙◌}
use mathlib.Core.Logic.{◌≢◌}
use mathlib.Core.Bool.{Bool, true, false, cond, true≢false}
use mathlib.Core.List.{List, [], ◌∷◌, ◌++◌, append_assoc, append-nil}
use Prim.Native.Nat.{ℕ, suc, ◌+◌, ◌*◌, ◌-◌, ◌≤◌}
use native.Mathlib.Nat.{zero-add, suc-mul}
use native.Mathlib.Omega.{arith}
use borrow.Author.Tests.{eq-eqb, ne_eqb, eqb-true, eqb-false}
use lib.Dec.{eqb}
use lib.ListN.{length, drop, length-append, length-drop}
use lib.Seq.{sets, length-sets}
use Rattle.layout.specs.Machine.{Machine, Memory, Commands}
use Rattle.layout_texts.specs.declared.Text.{Text}
use Rattle.std.specs.Prelude.{Result, Ok, Err, is_err}
use Rattle.base_questions.specs.Questions.{asked}
use Rattle.base_questions.specs.Refusals.{refused}
use Rattle.base_questions.specs.declared.Refusal.{Refusal}
use Rattle.base_questions.proofs.Refusals.{numbered}
use Rattle.machine.specs.Questions.{question1, question2}
use Rattle.machine.proofs.ValidMachine.{reaches, valid-dac}
use Rattle.pass_model.specs.Pass.{Outcome as Pass}
use Rattle.pass_model.proofs.Asked.{is-valid, is_whole}
use Rattle.command_update.specs.Update.{UpdateOutcome}
use Rattle.file_bytes.proofs.Puts.{sets-append}
use Rattle.ring_pass.specs.BenchPass.{Ordering, passed}
use Rattle.ring_steps.specs.Heard.{update_after}
use Rattle.ring_steps.specs.AsCoded.{Ringing, Step, step_of, commands_taken}
use Rattle.ring_steps.specs.declared.Output.TheVariants.{Frames}
use Rattle.ring_steps.proofs.Keeping.{then-passes}
use Rattle.ring_steps.proofs.Turns.{by-pass, by-update, by_both}
use Rattle.ring_block.specs.Block.{Rung, ended, rung_after, rung, ordering_for, dacs_of, frames_of, fitting, Call, Block, block_from, block_of}
use Rattle.ring_block.specs.AsCoded.{Sounding, ringing_at, done_by, frame_by}
use Rattle.ring_block.specs.declared.Stage.{Stage}
use Rattle.ring_block.proofs.Frames.{dacs-length, frames-more}

-- A machine that passes questions 1 and 2 has what a frame asks for.
sounds : (text : Text) (m : Machine) → asked (question1 m ∷ question2 text m ∷ []) ≡ 0 → Sounding m
sounds text m q = record { reaches = reaches m (is_whole text m [] q); low = valid-dac text m (is-valid text m [] q) }

-- One pass more, by the two numbers.
module _ (text : Text) (by : Ordering) (k : ℕ) (m : Machine) (memory : Memory) (commands : Commands) where
  abbrev pass : Pass
  pass = passed text by m memory

  abbrev update : UpdateOutcome
  update = update_after text pass.machine commands

  rung-refused : pass.number ≢ 0 → rung text by (suc k) m memory commands ≡ ended pass.number pass.machine pass.memory commands
  unfolding rung
  rung-refused h = rw (ne_eqb pass.number 0 h)

  module _ (z : pass.number ≡ 0) where
    rung-update-refused : update.number ≢ 0 → rung text by (suc k) m memory commands ≡ ended update.number update.machine pass.memory update.rest
    unfolding rung
    rung-update-refused h = rw (eq-eqb pass.number 0 z, ne_eqb update.number 0 h)

    rung-both : update.number ≡ 0 → rung text by (suc k) m memory commands ≡ rung_after (update.machine ∷ []) (rung text by k update.machine pass.memory update.rest)
    unfolding rung
    rung-both h = rw (eq-eqb pass.number 0 z, eq-eqb update.number 0 h)

-- A ringing under way as a ringing that is left.
abbrev from : Text → Ordering → Ringing → Rung
from text by r = rung text by r.passes r.machine r.memory r.commands

-- What a step does of it where nothing is refused, and where something is.
record Goes (text : Text) (by : Ordering) (r next : Ringing) : Type 0 where
  onward : from text by r ≡ rung_after (next.machine ∷ []) (from text by next)
  fewer : r.passes ≡ suc next.passes
  sounding : Sounding next.machine

record Ends (text : Text) (by : Ordering) (r next : Ringing) : Type 0 where
  onward : from text by r ≡ ended next.number next.machine next.memory next.commands
  none : next.passes ≡ 0

module _ (text : Text) (by : Ordering) (r : Ringing) (some : r.passes ≢ 0) where
  abbrev p : Pass
  p = passed text by r.machine r.memory

  abbrev u : UpdateOutcome
  u = update_after text p.machine r.commands

  abbrev k : ℕ
  k = r.passes - 1

  one_more : r.passes ≡ suc k
  one_more = omega arith

  begins : from text by r ≡ rung text by (suc k) r.machine r.memory r.commands
  begins = ap (λ (n : ℕ). rung text by n r.machine r.memory r.commands) one_more

  step-goes : (step_of text by Frames r).next.number ≡ 0 → Goes text by r (step_of text by Frames r).next
  step-goes z = go (eqb p.number 0) refl (eqb u.number 0) refl
    where
      go : (a : Bool) → eqb p.number 0 ≡ a → (b : Bool) → eqb u.number 0 ≡ b → Goes text by r (step_of text by Frames r).next
      go true ea true eb =
          let zp = eqb-true p.number 0 ea in
          let zu = eqb-true u.number 0 eb in
          rw (by_both text by Frames r some zp zu)
          (record {
            onward = begins ∙ rung-both text by k r.machine r.memory r.commands zp zu;
            fewer = one_more;
            sounding = sounds text u.machine (then-passes text by r.machine r.memory zp r.commands);
          })
      go true ea false eb =
          let h = eqb-false u.number 0 eb in
          absurd (h (sym (ap (λ (s : Step). s.next.number) (by-update text by Frames r some (eqb-true p.number 0 ea) h)) ∙ z))
      go false ea b eb =
          let h = eqb-false p.number 0 ea in
          absurd (h (sym (ap (λ (s : Step). s.next.number) (by-pass text by Frames r some h)) ∙ z))

  step-ends : (step_of text by Frames r).next.number ≢ 0 → Ends text by r (step_of text by Frames r).next
  step-ends n = go (eqb p.number 0) refl (eqb u.number 0) refl
    where
      go : (a : Bool) → eqb p.number 0 ≡ a → (b : Bool) → eqb u.number 0 ≡ b → Ends text by r (step_of text by Frames r).next
      go true ea true eb = absurd (n (ap (λ (s : Step). s.next.number) (by_both text by Frames r some (eqb-true p.number 0 ea) (eqb-true u.number 0 eb))))
      go true ea false eb =
          let zp = eqb-true p.number 0 ea in
          let h = eqb-false u.number 0 eb in
          rw (by-update text by Frames r some zp h)
          (record { onward = begins ∙ rung-update-refused text by k r.machine r.memory r.commands zp h; none = refl })
      go false ea b eb =
          let h = eqb-false p.number 0 ea in
          rw (by-pass text by Frames r some h)
          (record { onward = begins ∙ rung-refused text by k r.machine r.memory r.commands h; none = refl })

  module _ {next : Ringing} (e : next ≡ (step_of text by Frames r).next) where
    turn-goes : next.number ≡ 0 → Goes text by r next
    turn-goes z = let z' = ap (λ (n : Ringing). n.number) (sym e) ∙ z in rw e (step-goes z')

    turn-ends : next.number ≢ 0 → Ends text by r next
    turn-ends h = let h' : (step_of text by Frames r).next.number ≢ 0 = λ q. h (ap (λ (n : Ringing). n.number) e ∙ q) in rw e (step-ends h')

    -- A frame can be put of what a step leaves that is not refused.
    pub turn-sounds : next.number ≡ 0 → Sounding next.machine
    turn-sounds z = (turn-goes z).sounding

-- What is done and put after a step, by whether it is refused.
done-one : {n : ℕ} → n ≡ 0 → done_by n ≡ 1
unfolding done_by
done-one {n} z = rw (eq-eqb n 0 z)

done_none : {n : ℕ} → n ≢ 0 → done_by n ≡ 0
unfolding done_by
done_none {n} h = rw (ne_eqb n 0 h)

frame-one : {n : ℕ} (dacs : List ℕ) (m : Machine) → n ≡ 0 → frame_by n dacs m ≡ dacs_of dacs m
unfolding frame_by
frame-one {n} dacs m z = rw (eq-eqb n 0 z)

frame-none : {n : ℕ} (dacs : List ℕ) (m : Machine) → n ≢ 0 → frame_by n dacs m ≡ []
unfolding frame_by
frame-none {n} dacs m h = rw (ne_eqb n 0 h)

-- As the code has them.
pub stage-refused : (done place n : ℕ) (dacs frames : List ℕ) (m : Machine) → n ≢ 0
    → ((done ≡ done + done_by n) × (place ≡ place + length (frame_by n dacs m))) × (frames ≡ sets frames place (frame_by n dacs m))
stage-refused done place n dacs frames m h = ((omega (arith, done_none h), rw (frame-none dacs m h) (omega arith)), rw (frame-none dacs m h))

pub stage-goes : (done place n : ℕ) (dacs frames : List ℕ) (m : Machine) → n ≡ 0 → {after : ℕ} {frames' : List ℕ} → (after ≡ place + length dacs) × (frames' ≡ sets frames place (dacs_of dacs m))
    → ((done + 1 ≡ done + done_by n) × (after ≡ place + length (frame_by n dacs m))) × (frames' ≡ sets frames place (frame_by n dacs m))
stage-goes done place n dacs frames m z (ea, ef) =
    ((omega (arith, done-one z), rw (frame-one dacs m z) (omega (arith, ea, dacs-length dacs m))), rw (frame-one dacs m z) ef)

-- What the code asks of an answer is whether its number is one of a refusal.
pub errs : {A : Type 0} (r : Result A Refusal) {b : Bool} → b ≡ is_err r → b ≡ true → refused r ≢ 0
errs (Ok a) e t = absurd (true≢false (sym t ∙ e))
errs (Err refusal) e t = numbered refusal

pub errs-not : {A : Type 0} (r : Result A Refusal) {b : Bool} → b ≡ is_err r → b ≡ false → refused r ≡ 0
errs-not (Ok a) e f = refl
errs-not (Err refusal) e f = absurd (true≢false (sym e ∙ f))

-- What is left to ring from a stage; after a refusal nothing.
module _ (text : Text) (by : Ordering) (here : Stage) (m : Machine) (memory : Memory) (commands : Commands) where
  abbrev onwards : Rung
  onwards = cond (eqb (refused here.end) 0) (from text by (ringing_at here m memory commands)) (ended (refused here.end) m memory (drop here.taken commands))

  onwards-none : here.passes ≡ 0 → onwards ≡ ended (refused here.end) m memory (drop here.taken commands)
  unfolding rung
  onwards-none e = go (eqb (refused here.end) 0) refl
    where
      go : (b : Bool) → eqb (refused here.end) 0 ≡ b
          → cond b (from text by (ringing_at here m memory commands)) (ended (refused here.end) m memory (drop here.taken commands)) ≡ ended (refused here.end) m memory (drop here.taken commands)
      go true eb = rw (e, eqb-true (refused here.end) 0 eb)
      go false eb = refl

-- The loop's invariant: from the frames put so far and the stage that it is at, the block ends as from its start.
pub record Going (text : Text) (by : Ordering) (dacs : List ℕ) (n : ℕ) (m₀ : Machine) (memory₀ : Memory) (commands : Commands) (frames₀ : List ℕ) (here : Stage) (m : Machine) (memory : Memory) (frames : List ℕ) : Type 0 where
  pub machines : List Machine
  pub done-is : here.done ≡ length machines
  pub bound : here.done + here.passes ≤ n
  pub ends : refused here.end ≢ 0 → here.passes ≡ 0
  pub rest : rung_after machines (onwards text by here m memory commands) ≡ rung text by n m₀ memory₀ commands
  pub within : here.taken ≤ length commands
  pub place_is : here.place ≡ length (frames_of dacs machines)
  pub room : here.place + here.passes * length dacs ≤ length frames₀
  pub kept : length frames ≡ length frames₀
  pub put : frames ≡ sets frames₀ 0 (frames_of dacs machines)

-- It begins with nothing done.
pub going-begins : (text : Text) (by : Ordering) (dacs : List ℕ) (n : ℕ) (m : Machine) (memory : Memory) (commands : Commands) (frames : List ℕ) → n * length dacs ≤ length frames
    → Going text by dacs n m memory commands frames (record { passes = n; done = 0; taken = 0; place = 0; end = Ok tt }) m memory frames
unfolding frames_of
going-begins text by dacs n m memory commands frames h =
    record {
      machines = [];
      done-is = refl;
      bound = omega arith;
      ends = λ z. absurd (z refl);
      rest = refl;
      within = omega arith;
      place_is = refl;
      room = omega (arith, h);
      kept = refl;
      put = refl;
    }

module _ (text : Text) (by : Ordering) {dacs : List ℕ} {n : ℕ} {m₀ : Machine} {memory₀ : Memory} {commands : Commands} {frames₀ : List ℕ} {here : Stage} {m : Machine} {memory : Memory} {frames : List ℕ}
    (g : Going text by dacs n m₀ memory₀ commands frames₀ here m memory frames) where
  -- At its end the block is that of the whole.
  pub going-ends : here.passes ≡ 0
      → ◌≡◌ {A = Block} (record { number = refused here.end; done = here.done; taken = here.taken; machine = m; memory = memory; frames = frames })
      (block_from commands dacs frames₀ (rung text by n m₀ memory₀ commands))
  going-ends e =
      let last : rung_after g.machines (ended (refused here.end) m memory (drop here.taken commands)) ≡ rung text by n m₀ memory₀ commands =
      ap (rung_after g.machines) (sym (onwards-none text by here m memory commands e)) ∙ g.rest in
      let taken : length commands - length (drop here.taken commands) ≡ here.taken = omega (arith, length-drop here.taken commands, g.within) in
      rw (← last, append-nil g.machines, taken, ← g.done-is, ← g.put)

  module _ (some : here.passes ≢ 0) where
    -- A stage with passes left was not refused, and has room for a frame.
    unrefused : refused here.end ≡ 0
    unrefused = go (eqb (refused here.end) 0) refl
      where
        go : (b : Bool) → eqb (refused here.end) 0 ≡ b → refused here.end ≡ 0
        go true e = eqb-true (refused here.end) 0 e
        go false e = absurd (some (g.ends (eqb-false (refused here.end) 0 e)))

    pub frame-fits : here.place + length dacs ≤ length frames
    frame-fits =
        let k : here.passes ≡ suc (here.passes - 1) = omega arith in
        let e : here.passes * length dacs ≡ (here.passes - 1) * length dacs + length dacs = ap (λ (i : ℕ). i * length dacs) k ∙ suc-mul (here.passes - 1) (length dacs) in
        omega (arith, e, g.room, g.kept)

    rest-here : rung_after g.machines (from text by (ringing_at here m memory commands)) ≡ rung text by n m₀ memory₀ commands
    rest-here = rw (eq-eqb (refused here.end) 0 unrefused) at g.rest

    -- One step more.
    module _ (next : Stage) {m' : Machine} {memory' : Memory} {frames' : List ℕ}
        (e : ringing_at next m' memory' commands ≡ (step_of text by Frames (ringing_at here m memory commands)).next)
        (et : next.taken ≡ here.taken + commands_taken (ringing_at here m memory commands) (step_of text by Frames (ringing_at here m memory commands)))
        (ed : next.done ≡ here.done + done_by (refused next.end)) (ep : next.place ≡ here.place + length (frame_by (refused next.end) dacs m'))
        (ef : frames' ≡ sets frames here.place (frame_by (refused next.end) dacs m')) where
      within-still : next.taken ≤ length commands
      within-still = omega (arith, et, g.within, length-drop here.taken commands)

      kept-still : length frames' ≡ length frames₀
      kept-still = ap length ef ∙ length-sets frames here.place (frame_by (refused next.end) dacs m') ∙ g.kept

      goes_on : refused next.end ≡ 0 → Going text by dacs n m₀ memory₀ commands frames₀ next m' memory' frames'
      goes_on z =
          let t = turn-goes text by (ringing_at here m memory commands) some e z in
          let one : frame_by (refused next.end) dacs m' ≡ dacs_of dacs m' = frame-one dacs m' z in
          let more : frames_of dacs (g.machines ++ m' ∷ []) ≡ frames_of dacs g.machines ++ dacs_of dacs m' = frames-more dacs g.machines m' in
          let place : next.place ≡ here.place + length dacs = ep ∙ ap (λ (l : List ℕ). here.place + length l) one ∙ ap (λ (i : ℕ). here.place + i) (dacs-length dacs m') in
          let product : here.passes * length dacs ≡ next.passes * length dacs + length dacs = ap (λ (i : ℕ). i * length dacs) t.fewer ∙ suc-mul next.passes (length dacs) in
          record {
            machines = g.machines ++ m' ∷ [];
            done-is = omega (arith, ed, done-one z, g.done-is, length-append g.machines (m' ∷ []));
            bound = omega (arith, ed, done-one z, g.bound, t.fewer);
            ends = λ h. absurd (h z);
            rest = rw (eq-eqb (refused next.end) 0 z, append_assoc g.machines (m' ∷ []) (from text by (ringing_at next m' memory' commands)).machines) (ap (rung_after g.machines) (sym t.onward) ∙ rest-here);
            within = within-still;
            place_is = omega (arith, place, g.place_is, ap length more, length-append (frames_of dacs g.machines) (dacs_of dacs m'), dacs-length dacs m');
            room = omega (arith, place, product, g.room);
            kept = kept-still;
            put = rw (ef, one, more, g.place_is, g.put) (rw (zero-add (length (frames_of dacs g.machines))) at (sets-append frames₀ 0 (frames_of dacs g.machines) (dacs_of dacs m')));
          }

      ends-here : refused next.end ≢ 0 → Going text by dacs n m₀ memory₀ commands frames₀ next m' memory' frames'
      ends-here h =
          let t = turn-ends text by (ringing_at here m memory commands) some e h in
          let none : frame_by (refused next.end) dacs m' ≡ [] = frame-none dacs m' h in
          record {
            machines = g.machines;
            done-is = omega (arith, ed, done_none h, g.done-is);
            bound = omega (arith, ed, done_none h, g.bound, t.none);
            ends = λ z. t.none;
            rest = rw (ne_eqb (refused next.end) 0 h) (ap (rung_after g.machines) (sym t.onward) ∙ rest-here);
            within = within-still;
            place_is = rw none at ep ∙ omega (arith, g.place_is);
            room = let place : next.place ≡ here.place = ep ∙ ap (λ (l : List ℕ). here.place + length l) none ∙ omega arith in rw t.none (omega (arith, place, g.room));
            kept = kept-still;
            put = rw none at ef ∙ g.put;
          }

      pub going-goes : Going text by dacs n m₀ memory₀ commands frames₀ next m' memory' frames'
      going-goes = go (eqb (refused next.end) 0) refl
        where
          go : (b : Bool) → eqb (refused next.end) 0 ≡ b → Going text by dacs n m₀ memory₀ commands frames₀ next m' memory' frames'
          go true q = goes_on (eqb-true (refused next.end) 0 q)
          go false q = ends-here (eqb-false (refused next.end) 0 q)

-- A block with the call's ordering and as many passes as fit is the call's.
pub as_called : (text : Text) (m : Machine) (call : Call) {by : Ordering} {n : ℕ} → by ≡ ordering_for call.order → n ≡ fitting (length call.dacs) (length call.frames) call.passes
    → {b : Block} → b ≡ block_from call.commands call.dacs call.frames (rung text by n m call.memory call.commands) → b ≡ block_of text m call
unfolding block_of
as_called text m call eb en e = e ∙ rw (eb, en)

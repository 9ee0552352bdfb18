-- Blocks joined: what a ringing leaves of its commands and how many passes it does, and so what two calls in sequence leave.
-- Assumes nothing.
use mathlib.Core.Path.{◌≡◌, refl, sym, ap, ◌∙◌}
use mathlib.Core.Bool.{Bool, true, false, cond}
use mathlib.Core.List.{List, [], ◌∷◌, ◌++◌}
use Prim.Native.Nat.{ℕ, zero, suc, ◌+◌, ◌*◌, ◌-◌, ◌≤◌}
use native.Mathlib.Nat.{mul-le-mul_right}
use native.Mathlib.Omega.{arith}
use borrow.Author.Tests.{eqb-true}
use lib.Dec.{eqb}
use lib.ListN.{length, drop, length-append}
use lib.Seq.{sets, drop-drop}
use Rattle.base_lists.proofs.Choices.{of-cond}
use Rattle.layout.specs.Machine.{Machine, Memory, Commands}
use Rattle.layout_texts.specs.declared.Text.{Text}
use Rattle.layout_texts.specs.declared.Text.TheVariants.{Of1978, Old}
use Rattle.command_update.specs.Update.{UpdateOutcome}
use Rattle.command_update.proofs.Updating.{left-within, tail_of}
use Rattle.ring_pass.specs.BenchPass.{Ordering, passed}
use Rattle.ring_steps.specs.Heard.{Heard, update_after}
use Rattle.ring_steps.proofs.HeardPasses.{heard_all}
use Rattle.ring_block.specs.Block.{Rung, rung_after, rung, then_rung, rung_on, ordering_for, frames_of, fitting, Call, Block, block_from, block_of}
use Rattle.ring_block.proofs.Blocks.{rung-heard, blocks-join}
use Rattle.ring_block_laws.specs.InBlocks.{passes_of, in_blocks, call_after, call_of_both, blocks_joined}
use Rattle.ring_block_laws.proofs.Runs.{frames-append, frames-length, sets_first, sets-both, fit-enough, fit-more}

-- Any way of cutting.
pub blocks-join-all : (text : Text) (by : Ordering) (cuts : List ℕ) (m : Machine) (memory : Memory) (commands : Commands)
    → in_blocks text by cuts m memory commands ≡ rung text by (passes_of cuts) m memory commands
unfolding in_blocks passes_of rung
blocks-join-all text by [] m memory commands = refl
blocks-join-all text by (n ∷ ns) m memory commands =
    let r = rung text by n m memory commands in
    ap (λ (s : Rung). then_rung r s) (blocks-join-all text by ns r.machine r.memory r.commands) ∙ sym (blocks-join text by n (passes_of ns) m memory commands)

-- Commands that are left of others: those from a place on.
record Left (cs rest : Commands) : Type 0 where
  within : length rest ≤ length cs
  is : drop (length cs - length rest) cs ≡ rest

left-all : (cs : Commands) → Left cs cs
left-all cs = let e : length cs - length cs ≡ 0 = omega arith in record { within = omega arith; is = ap (λ (i : ℕ). drop i cs) e }

left-later : {cs ds es : Commands} → Left cs ds → Left ds es → Left cs es
left-later {cs} {ds} {es} p q =
    let e : length cs - length es ≡ (length cs - length ds) + (length ds - length es) = omega (arith, p.within, q.within) in
    record {
      within = omega (arith, p.within, q.within);
      is = ap (λ (i : ℕ). drop i cs) e ∙ sym (drop-drop (length ds - length es) (length cs - length ds) cs) ∙ ap (drop (length ds - length es)) p.is ∙ q.is;
    }

update-left : (text : Text) (m : Machine) (cs : Commands) → Left cs (update_after text m cs).rest
update-left Of1978 m cs = record { within = left-within m cs refl; is = ap (λ (o : UpdateOutcome). o.rest) (tail_of m cs refl) }
update-left Old m cs = left-all cs

module _ (text : Text) (by : Ordering) where
  -- What a ringing leaves of its commands, and no more passes than asked for.
  abbrev Leaves : ℕ → Commands → Rung → Type 0
  Leaves n cs r = Left cs r.commands × (length r.machines ≤ n)

  leaves : (n : ℕ) (m : Machine) (memory : Memory) (cs : Commands) → Leaves n cs (rung text by n m memory cs)
  unfolding rung
  leaves zero m memory cs = (left-all cs, omega arith)
  leaves (suc n) m memory cs =
      let p = passed text by m memory in
      let u = update_after text p.machine cs in
      let some = update-left text p.machine cs in
      let rest = leaves n u.machine p.memory u.rest in
      of-cond (Leaves (suc n) cs) (eqb p.number 0)
      (of-cond (Leaves (suc n) cs) (eqb u.number 0) (left-later some rest.0, omega (arith, rest.1)) (some, omega arith))
      (left-all cs, omega arith)

  -- All of them where nothing is refused.
  all_done : (n : ℕ) (m : Machine) (memory : Memory) (cs : Commands) → (rung text by n m memory cs).number ≡ 0 → length (rung text by n m memory cs).machines ≡ n
  all_done n m memory cs z =
      let e = rung-heard text by n m memory cs in
      ap (λ (h : Heard). length h.machines) e ∙ heard_all text by n m memory cs (ap (λ (h : Heard). h.number) (sym e) ∙ z)

-- Two ringings in sequence as blocks.
joined : (cs : Commands) (dacs f frames : List ℕ) (r s : Rung) → Left cs r.commands → Left r.commands s.commands → length (frames_of dacs r.machines) ≤ length f
    → (r.number ≡ 0 → length (frames_of dacs r.machines) ≡ length f)
    → block_from cs dacs (f ++ frames) (then_rung r s) ≡ blocks_joined (block_from cs dacs f r) (block_from r.commands dacs frames s) frames
joined cs dacs f frames r s p q most whole = go (eqb r.number 0) refl
  where
    go : (b : Bool) → eqb r.number 0 ≡ b
        → block_from cs dacs (f ++ frames) (cond b (rung_after r.machines s) r)
        ≡ cond b
        (record {
          number = s.number;
          done = length r.machines + length s.machines;
          taken = (length cs - length r.commands) + (length r.commands - length s.commands);
          machine = s.machine;
          memory = s.memory;
          frames = sets f 0 (frames_of dacs r.machines) ++ sets frames 0 (frames_of dacs s.machines);
        })
        (record {
          number = r.number;
          done = length r.machines;
          taken = length cs - length r.commands;
          machine = r.machine;
          memory = r.memory;
          frames = sets f 0 (frames_of dacs r.machines) ++ frames;
        })
    go true e =
        let taken : length cs - length s.commands ≡ (length cs - length r.commands) + (length r.commands - length s.commands) = omega (arith, p.within, q.within) in
        rw (length-append r.machines s.machines, taken, frames-append dacs r.machines s.machines, sets-both (frames_of dacs r.machines) (frames_of dacs s.machines) f frames (whole (eqb-true r.number 0 e)))
    go false e = rw (sets_first (frames_of dacs r.machines) f frames 0 (omega (arith, most)))

module _ (text : Text) (m : Machine) (call : Call) (more : ℕ) (frames : List ℕ) (room : call.passes * length call.dacs ≡ length call.frames) where
  abbrev by : Ordering
  by = ordering_for call.order

  abbrev r : Rung
  r = rung text by call.passes m call.memory call.commands

  abbrev k : ℕ
  k = fitting (length call.dacs) (length frames) more

  first : block_of text m call ≡ block_from call.commands call.dacs call.frames r
  unfolding block_of
  first = rw (fit-enough (length call.dacs) (length call.frames) call.passes (omega (arith, room)))

  second : block_of text r.machine (call_after call (block_from call.commands call.dacs call.frames r) more frames)
      ≡ block_from r.commands call.dacs frames (rung_on text by k r)
  unfolding block_of
  second = rw (leaves text by call.passes m call.memory call.commands).0.is

  both : block_of text m (call_of_both call more frames) ≡ block_from call.commands call.dacs (call.frames ++ frames) (then_rung r (rung_on text by k r))
  unfolding block_of
  both =
      rw (
        length-append call.frames frames,
        fit-more (length call.dacs) (length call.frames) (length frames) call.passes more room,
        blocks-join text by call.passes k m call.memory call.commands,
      )

  pub calls-join : block_of text m (call_of_both call more frames) ≡ blocks_joined (block_of text m call) (block_of text (block_of text m call).machine (call_after call (block_of text m call) more frames)) frames
  calls-join =
      let left = leaves text by call.passes m call.memory call.commands in
      let later = leaves text by k r.machine r.memory r.commands in
      let size = frames-length call.dacs r.machines in
      let most : length (frames_of call.dacs r.machines) ≤ length call.frames = omega (arith, size, room, mul-le-mul_right (length call.dacs) left.1) in
      both
      ∙ joined call.commands call.dacs call.frames frames r (rung_on text by k r) left.0 later.0 most
      (λ z. size ∙ ap (λ (n : ℕ). n * length call.dacs) (all_done text by call.passes m call.memory call.commands z) ∙ room)
      ∙ ap (λ (c : Block). blocks_joined (block_from call.commands call.dacs call.frames r) c frames) (sym second)
      ∙ ap (λ (b : Block). blocks_joined b (block_of text b.machine (call_after call b more frames)) frames) (sym first)

-- `ring_block::put_frame` meets its contract: the samples that are left, put at their places, make the whole frame put.
-- Assumes nothing.
use mathlib.Core.Path.{ap, sym, ◌∙◌}
use Prim.Native.Nat.{ℕ, ◌+◌, ◌≤◌, ◌<◌}
use native.Mathlib.Omega.{arith}
use lib.ListN.{length, set, drop, drop_of_length-le, length-set}
use lib.Seq.{sets}
use Rattle.file_bytes.proofs.Puts.{sets-next}
use Rattle.ring_block.specs.Block.{dacs_of}
use Rattle.ring_block.proofs.Frames.{dacs-length, dac-at}
use Rattle.ring_block.proofs.put_frame.Goals as goal

pub loop-i-preserved : goal.loop-i-preserved
loop-i-preserved c =
    let l = c.loop-i in
    let a = c.args in
    let ds = a.dacs.now in
    let frame = dacs_of ds a.m.now in
    let inside : l.i < length frame = omega (arith, c.loop-i-test.true, dacs-length ds a.m.now) in (
      length-set l.frames _ _ ∙ l.invariant.0,
      ap (λ (v : ℕ). sets (set l.frames (a.at + l.i) v) (a.at + (l.i + 1)) (drop (l.i + 1) frame)) (c.extend.ensures ∙ sym (dac-at ds a.m.now l.i c.loop-i-test.true))
          ∙ sym (sets-next l.frames a.at frame l.i inside) ∙ l.invariant.1,
    )

pub returns : goal.returns
returns c =
    let l = c.loop-i in
    let a = c.args in
    let frame = dacs_of a.dacs.now a.m.now in
    let end : length frame ≤ l.i = omega (arith, c.loop-i-test.false, dacs-length a.dacs.now a.m.now) in record { value = omega arith; frames_after = ap (sets l.frames (a.at + l.i)) (sym (drop_of_length-le frame end)) ∙ l.invariant.1 }

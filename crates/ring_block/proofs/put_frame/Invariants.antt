-- `ring_block::put_frame` meets its contract: the samples that are left, put at their places, make the whole frame put.
-- Assumes nothing.
use mathlib.Core.Path.{◌≡◌}
use Prim.Native.Nat.{◌+◌}
use lib.ListN.{length, drop}
use lib.Seq.{sets}
use Rattle.ring_block.specs.Block.{dacs_of}
use Rattle.ring_block.proofs.put_frame.Given as goal

abbrev pub invariant-loop-i : goal.invariant-loop-i
invariant-loop-i l =
    (length l.frames ≡ length l.initial.frames) × (sets l.frames (l.at + l.i) (drop l.i (dacs_of l.dacs l.m)) ≡ sets l.initial.frames l.at (dacs_of l.dacs l.m))

-- `ring_all` ends: each part leaves fewer passes; the machine and delay memory keep their lengths.
-- Assumes nothing.
use Rattle.std.proofs.Common.{◌≡◌, length}
use Rattle.ring.proofs.ring_all.Given as goal

abbrev pub invariant-loop-at : goal.invariant-loop-at
invariant-loop-at l = (length l.m ≡ length l.initial.m) × (length l.memory ≡ length l.initial.memory)

abbrev pub decreases-loop-at : goal.decreases-loop-at
decreases-loop-at l = l.at.passes

-- `ring_block::ring_by` meets its contract: from each stage the block ends as from its start, and which question refuses the next pass is known.
-- Assumes nothing.
use mathlib.Core.Path.{◌≡◌}
use lib.ListN.{length}
use Rattle.base_questions.specs.Refusals.{refused}
use Rattle.ring_pass.specs.BenchPass.{passed}
use Rattle.ring_pass.specs.Benches.{ordering_in}
use Rattle.ring_block.proofs.Going.{Going}
use Rattle.ring_block.proofs.ring_by.Given as goal

abbrev pub invariant-loop-here : goal.invariant-loop-here
invariant-loop-here l =
    (length l.m ≡ length l.initial.m)
    × ((length l.memory ≡ length l.initial.memory)
    × ((refused l.known ≡ (passed l.bench.text (ordering_in l.bench) l.m l.memory).number)
    × Going l.bench.text (ordering_in l.bench) l.dacs l.passes l.initial.m l.initial.memory l.bench.commands.now l.initial.frames l.here l.m l.memory l.frames))

abbrev pub decreases-loop-here : goal.decreases-loop-here
decreases-loop-here l = l.here.passes

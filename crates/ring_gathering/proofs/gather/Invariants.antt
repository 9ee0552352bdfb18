-- `ring_gathering::gather` meets its contract: from what is gathered so far as much is gathered as from the start, and which question refuses the next pass is known.
-- Assumes nothing.
use mathlib.Core.Path.{◌≡◌}
use lib.ListN.{length}
use Rattle.base_questions.specs.Refusals.{refused}
use Rattle.ring_pass.specs.BenchPass.{passed}
use Rattle.ring_pass.specs.Benches.{ordering_in}
use Rattle.ring_steps.specs.AsCoded.{ringing_at}
use Rattle.ring_gathering.proofs.Gatherings.{Gathering}
use Rattle.ring_gathering.proofs.gather.Given as goal

abbrev pub invariant-loop-here : goal.invariant-loop-here
invariant-loop-here l =
    (length l.m ≡ length l.initial.m)
    × ((length l.memory ≡ length l.initial.memory)
    × ((refused l.known ≡ (passed l.bench.text (ordering_in l.bench) l.m l.memory).number)
    × Gathering l.bench.text (ordering_in l.bench) l.output l.initial.out (ringing_at l.fn.at l.initial.m l.initial.memory l.bench.commands.now) l.fn.at.taken l.out l.here.length (ringing_at l.here l.m l.memory l.bench.commands.now) l.here.taken))

abbrev pub decreases-loop-here : goal.decreases-loop-here
decreases-loop-here l = l.here.passes

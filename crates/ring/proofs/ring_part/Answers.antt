-- `ring_part` meets its contract: what was gathered has room in the buffer.
-- Assumes nothing.
use native.Mathlib.Omega.{arith}
use lib.ListN.{replicate, length-take}
use Rattle.ring_pass.specs.Benches.{ordering_in}
use Rattle.ring_steps.specs.AsCoded.{ringing_at}
use Rattle.ring.proofs.Parts.{gathered-within}
use Rattle.ring.proofs.ring_part.Goals as goal

pub slice_bounds-out-end : goal.slice_bounds-out-end
slice_bounds-out-end c =
    let a = c.args in
    gathered-within a.bench.text (ordering_in a.bench) (replicate 65536 0) (ringing_at a.at a.m.now a.memory.now a.bench.commands.now) c.gather-next.ensures.length_value c.gather-next.ensures.out_after

pub slice_bounds-write_all-end : goal.slice_bounds-write_all-end
slice_bounds-write_all-end c =
    let a = c.args in
    omega (arith, length-take c.gather-next.result.length c.gather-next.new.out, gathered-within a.bench.text (ordering_in a.bench) (replicate 65536 0) (ringing_at a.at a.m.now a.memory.now a.bench.commands.now) c.gather-next.ensures.length_value c.gather-next.ensures.out_after)

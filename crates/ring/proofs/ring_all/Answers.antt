-- `ring_all` meets its contract: each part leaves fewer passes, and the machine and delay memory keep their lengths.
-- Assumes nothing.
use Rattle.ring_pass.specs.Benches.{ordering_in}
use Rattle.ring_steps.specs.AsCoded.{ringing_at}
use Rattle.ring.proofs.Parts.{part_falls}
use Rattle.ring.proofs.ring_all.Goals as goal

pub loop-at-smaller : goal.loop-at-smaller
loop-at-smaller c =
    let a = c.args in
    part_falls a.bench.text (ordering_in a.bench) (ringing_at c.loop-at.at c.loop-at.m c.loop-at.memory a.bench.commands.now) c.loop-at-test.true c.in_ok-at.ensures

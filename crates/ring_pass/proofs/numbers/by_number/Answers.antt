-- `ring_pass::by_number` meets its contract: the entries below i are filled.
-- Assumes nothing.
use Rattle.ring_pass.proofs.ByNumber.{none_filled, fills, all-filled}
use Rattle.ring_pass.proofs.numbers.by_number.Goals as goal

pub loop-i-init : goal.loop-i-init
loop-i-init c = none_filled c.args.order.now c.requires

pub loop-i-preserved : goal.loop-i-preserved
loop-i-preserved c = fills c.loop-i.order c.loop-i.i c.loop-i.invariant c.loop-i-test.true

pub returns : goal.returns
returns c = all-filled c.loop-i.order c.loop-i.i c.loop-i.invariant c.loop-i-test.false

-- `ring_order::by_name` meets its contract: by its length, and then by its byte.
-- Assumes nothing.
use Rattle.ring_order.proofs.Filling.{name-long, name-dash, name-other}
use Rattle.ring_order.proofs.by_name.Goals as goal

pub returns-then-name-ne1 : goal.returns-then-name-ne1
returns-then-name-ne1 c = name-long _ c.if-name-ne1.true

pub returns-then-starts : goal.returns-then-starts
returns-then-starts c = name-dash c.args.name.now c.if-name-ne1.false c.starts.ensures c.if-starts.true

pub returns : goal.returns
returns c = name-other c.args.name.now c.if-name-ne1.false c.starts.ensures c.if-starts.false

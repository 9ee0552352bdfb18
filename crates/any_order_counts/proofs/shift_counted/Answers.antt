-- `any_order_counts::shift_counted` meets its contract: a generator from T on counts for nothing.
-- Assumes nothing.
use Rattle.any_order_counts.proofs.Steps.{below-moved, above-stays}
use Rattle.any_order_counts.proofs.shift_counted.Goals as goal

pub returns-then-t-g : goal.returns-then-t-g
returns-then-t-g c =
    let a = c.args in
    above-stays a.up a.m.now a.kept.now a.g c.ticks-t.ensures c.if-t-g.true

pub returns : goal.returns
returns c =
    let a = c.args in
    below-moved a.up a.m.now a.kept.now a.g c.ticks-t.ensures c.if-t-g.false c.awaited-above.ensures c.shift_roles.ensures
    c.shift_if.ensures

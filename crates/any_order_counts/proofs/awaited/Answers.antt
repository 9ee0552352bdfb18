-- `any_order_counts::awaited` meets its contract: the upper neighbour is asked where it is below t.
-- Assumes nothing.
use Rattle.any_order_counts.proofs.Steps.{none_above, some-above}
use Rattle.any_order_counts.proofs.awaited.Goals as goal

pub returns-then-t-above : goal.returns-then-t-above
returns-then-t-above c = let a = c.args in none_above a.m.now a.t a.g c.if-t-above.true

pub returns : goal.returns
returns c =
    let a = c.args in
    some-above a.m.now a.t a.g c.if-t-above.false c.awaits.ensures

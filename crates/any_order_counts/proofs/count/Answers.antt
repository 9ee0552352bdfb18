-- `any_order_counts::count` meets its contract: all below T are put in.
-- Assumes nothing.
use Rattle.any_order_counts.proofs.Steps.{counted-by}
use Rattle.any_order_counts.proofs.count.Goals as goal

pub returns : goal.returns
returns c = counted-by c.args.m.now c.requires.kept_value c.ticks-t.ensures c.shift_roles.ensures

-- `any_order_sums::shift_fed` meets its contract: the DACs that are fed from more than one source follow where there are two, or one again.
-- Assumes nothing.
use Rattle.std.proofs.Common.{arith}
use Rattle.any_order_sums.proofs.Steps.{small, fed_by}
use Rattle.any_order_sums.proofs.shift_fed.Goals as goal

pub overflow_add-up : goal.overflow_add-up
overflow_add-up c = omega (arith, small c.args.up)

pub returns : goal.returns
returns c =
    let a = c.args in
    fed_by a.up a.kept.now a.d c.shift-n.ensures.value c.shift-n.ensures.kept_after c.shift_if.ensures

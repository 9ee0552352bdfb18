-- `any_order_sums::shift_writer` meets its contract: the sources of the written data follow where the count has begun or ceased to be 0.
-- Assumes nothing.
use Rattle.std.proofs.Common.{◌+◌, arith}
use Rattle.any_order_sums.proofs.Steps.{written-at-edge, off-edge}
use Rattle.any_order_sums.proofs.shift_writer.Goals as goal

pub returns-then-n-up : goal.returns-then-n-up
returns-then-n-up c =
    let a = c.args in
    written-at-edge a.up a.kept.now (128 + a.v) c.shift-n.ensures.value c.shift-n.ensures.kept_after c.if-n-up.true (omega arith) (omega arith) c.shift.ensures.kept_after

pub returns-else-n-up : goal.returns-else-n-up
returns-else-n-up c =
    let a = c.args in
    off-edge a.up a.kept.now (128 + a.v) c.shift-n.ensures.value c.shift-n.ensures.kept_after c.if-n-up.false

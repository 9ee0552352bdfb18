-- `any_order_sums::shift_other` meets its contract: no sum moves.
-- Assumes nothing.
use Rattle.any_order_sums.proofs.Steps.{others_by}
use Rattle.any_order_sums.proofs.shift_other.Goals as goal

pub returns : goal.returns
returns c = let a = c.args in others_by a.up a.kept.now c.shift.ensures.kept_after

-- `any_order_sums::shift_if` meets its contract: nothing changes where nothing is to move.
-- Assumes nothing.
use Rattle.std.proofs.Common.{◌∙◌}
use Rattle.any_order_sums.specs.AsCoded.{moved_if}
use Rattle.any_order_sums.proofs.shift_if.Goals as goal

pub returns-then-not-moves : goal.returns-then-not-moves
unfolding moved_if
returns-then-not-moves c = rw (c.if-not-moves.true)

pub returns : goal.returns
unfolding moved_if
returns c = c.shift.ensures.kept_after ∙ rw (c.if-not-moves.false)

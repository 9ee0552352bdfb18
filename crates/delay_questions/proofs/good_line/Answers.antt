-- `delay_questions::good_line` meets its contract: a loaded unit is within its widths.
-- Assumes nothing.
use Rattle.delay.proofs.Low.{loaded-ranged}
use Rattle.delay_questions.proofs.good_line.Goals as goal

pub fits-requires : goal.fits-requires
fits-requires c = rw c.delay_at-d.ensures (loaded-ranged _)

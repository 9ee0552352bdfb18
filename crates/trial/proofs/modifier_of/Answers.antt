-- `trial::modifier_of` meets its contract: a modifier that was loaded is within its widths.
-- Assumes nothing.
use Rattle.modifier.proofs.Low.{loaded-ranged}
use Rattle.trial.proofs.modifier_of.Goals as goal

pub returns : goal.returns
returns c = rw c.load.ensures (loaded-ranged _)

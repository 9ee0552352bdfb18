-- `generator_old::angle` meets its contract: J is the low bits of the exact sum of step 1.
-- Assumes nothing.
use Rattle.generator_old.proofs.OldTurns.{e-is}
use Rattle.generator_old.proofs.angle.Goals as goal

pub returns : goal.returns
returns c = e-is _ _ c.phase.ensures c.low-j.ensures.is c.angle_by.ensures

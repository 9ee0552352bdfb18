-- `layout_old_modes::run_mode` meets its contract: the digit of the constant, by the law over the eight run modes.
-- Assumes nothing.
use native.Mathlib.Omega.{arith}
use Rattle.layout_old_modes.specs.OldModes.{old_run_mode}
use Rattle.layout_old_modes.proofs.RunModes.{digit-switched}
use Rattle.layout_old_modes.proofs.run_mode.Goals as goal

pub returns : goal.returns
unfolding old_run_mode
returns c = digit-switched _ _ (omega arith) (omega arith)

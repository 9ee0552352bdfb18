-- `command_update::still_lingering` meets its contract: the test is the definition's.
-- Assumes nothing.
use mathlib.Core.Path.{refl}
use Rattle.command_update.specs.Update.{still_lingering}
use Rattle.command_update.proofs.still_lingering.Goals as goal

pub returns : goal.returns
unfolding still_lingering
returns c = refl

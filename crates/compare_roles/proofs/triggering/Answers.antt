-- `compare_roles::triggering` meets its contract: the two run modes are those that can trigger.
-- Assumes nothing.
use mathlib.Core.Path.{sym}
use Rattle.layout_modes.proofs.RunModes.{free-is}
use Rattle.compare_roles.proofs.triggering.Goals as goal

pub returns : goal.returns
returns c = sym (free-is c.args.run)

-- `command_misc::release_if` meets its contract: its two arms.
-- Assumes nothing.
use Rattle.command_misc.proofs.release_if.Goals as goal

pub returns-then-asked : goal.returns-then-asked
returns-then-asked c = rw c.if-asked.true c.release.ensures

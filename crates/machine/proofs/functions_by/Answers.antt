-- `machine::functions_by` meets its contract: the flags are the mask's.
-- Assumes nothing.
use Rattle.machine.proofs.functions_by.Goals as goal

pub returns : goal.returns
returns c = rw (← c.flags-functions.ensures) c.flagged.ensures

-- `machine::ticks_counted` meets its contract: the word is compared with the count of T and N.
-- Assumes nothing.
use Rattle.machine.proofs.ticks_counted.Goals as goal

pub returns : goal.returns
returns c = rw c.update_ticks.ensures

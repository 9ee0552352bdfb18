-- `machine_change::set_ticks` meets its contract: the update ticks are those of the T that it sets.
-- Assumes nothing.
use Rattle.machine_change.proofs.Branches.{ticks-set}
use Rattle.machine_change.proofs.set_ticks.Goals as goal

pub returns : goal.returns
returns c = ticks-set c.args.m.now c.args.t c.requires c.update_ticks.ensures

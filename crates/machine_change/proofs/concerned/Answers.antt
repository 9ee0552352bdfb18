-- `machine_change::concerned` meets its contract: a change of T concerns the generator at its end.
-- Assumes nothing.
use Rattle.machine_change.specs.Change.{concerned}
use Rattle.machine_change.proofs.Branches.{sets-concern}
use Rattle.machine_change.proofs.concerned.Goals as goal

pub returns-in-TickMore : goal.returns-in-TickMore
unfolding concerned
returns-in-TickMore c = rw c.in-TickMore.is c.ticks-t.ensures

pub returns-in-TickFewer : goal.returns-in-TickFewer
unfolding concerned
returns-in-TickFewer c = rw (c.in-TickFewer.is, c.ticks-t.ensures)

pub returns-in-Sets : goal.returns-in-Sets
returns-in-Sets c = let s = c.in-Sets in rw s.is (sets-concern c.args.m.now s.register s.generator s.value c.wide.ensures)

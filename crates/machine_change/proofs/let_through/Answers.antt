-- `machine_change::let_through` meets its contract: each change asks its new word.
-- Assumes nothing.
use mathlib.Core.Path.{refl}
use Rattle.machine_change.specs.AsCoded.{let_through}
use Rattle.machine_change.proofs.Branches.{sets-let}
use Rattle.machine_change.proofs.let_through.Goals as goal

pub returns-in-TickMore : goal.returns-in-TickMore
unfolding let_through
returns-in-TickMore c = rw c.in-TickMore.is refl

pub returns-in-TickFewer : goal.returns-in-TickFewer
unfolding let_through
returns-in-TickFewer c = rw c.in-TickFewer.is refl

pub returns-in-Sets : goal.returns-in-Sets
returns-in-Sets c = let s = c.in-Sets in rw s.is (sets-let c.args.m.now s.register s.generator s.value c.value_fits.ensures)

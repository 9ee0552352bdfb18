-- `parts_contents::level_last` meets its contract: both last quadrants are filled, one after the other.
-- Assumes nothing.
use Rattle.parts_model.specs.Contents.{with_last}
use Rattle.parts_contents.proofs.level_last.Goals as goal

pub returns : goal.returns
unfolding with_last
returns c = rw (← c.inactive.ensures, ← c.fill.ensures) c.fill-2.ensures

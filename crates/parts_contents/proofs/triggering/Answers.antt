-- `parts_contents::triggering` meets its contract: GP and GQ are filled, one after the other.
-- Assumes nothing.
use Rattle.parts_model.specs.Contents.{triggering_contents}
use Rattle.parts_contents.proofs.triggering.Goals as goal

pub returns : goal.returns
unfolding triggering_contents
returns c = rw (← c.inactive.ensures, ← c.fill.ensures) c.fill-2.ensures

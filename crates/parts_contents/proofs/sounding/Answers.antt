-- `parts_contents::sounding` meets its contract: one thing is filled after another.
-- Assumes nothing.
use Rattle.parts_model.specs.Contents.{sounding_contents}
use Rattle.parts_contents.proofs.sounding.Goals as goal

pub returns : goal.returns
unfolding sounding_contents
returns c = rw (← c.level_last.ensures, ← c.waves.ensures, ← c.fill.ensures, ← c.fill-2.ensures, ← c.fill-3.ensures) c.levels.ensures

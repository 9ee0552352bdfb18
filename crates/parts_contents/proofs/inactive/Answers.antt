-- `parts_contents::inactive` meets its contract: a copy, with the modifiers' modes filled.
-- Assumes nothing.
use Rattle.parts_model.specs.Contents.{inactive_modifiers}
use Rattle.parts_contents.proofs.inactive.Goals as goal

pub returns : goal.returns
unfolding inactive_modifiers
returns c = rw (← c.copy.ensures) c.fill.ensures

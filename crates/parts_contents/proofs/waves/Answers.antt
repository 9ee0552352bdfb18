-- `parts_contents::waves` meets its contract: by the text, one column after another.
-- Assumes nothing.
use Rattle.parts_contents.proofs.waves.Goals as goal

pub returns-in-Of1978 : goal.returns-in-Of1978
returns-in-Of1978 c = rw (c.in-Of1978.is, ← c.fill.ensures) c.fill-in-Of1978.ensures

pub returns-in-Old : goal.returns-in-Old
returns-in-Old c = rw c.in-Old.is c.fill-in-Old.ensures

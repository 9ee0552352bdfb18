-- `layout::ticks` meets its contract: T is the word at its place.
-- Assumes nothing.
use Rattle.layout.proofs.ticks.Goals as goal

pub returns : goal.returns
returns c = c.wide.ensures

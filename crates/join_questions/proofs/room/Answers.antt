-- `join_questions::room` meets its contract: both T are the machines'.
-- Assumes nothing.
use borrow.Author.Rules.{rules}
use Rattle.join_questions.proofs.room.Goals as goal

pub ticks-requires : goal.ticks-requires
ticks-requires c = search rules

pub ticks-requires-2 : goal.ticks-requires-2
ticks-requires-2 c = search rules

pub returns : goal.returns
returns c = rw (c.ticks.ensures, c.ticks-2.ensures)

-- `join_questions::may_join` meets its contract: both machines are asked, and generator 0 of the second.
-- Assumes nothing.
use Rattle.join_questions.proofs.may_join.Goals as goal

pub returns : goal.returns
returns c = rw (c.self_contained.ensures, c.self_contained-2.ensures, c.awaits_neighbour.ensures)

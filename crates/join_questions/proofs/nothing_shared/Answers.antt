-- `join_questions::nothing_shared` meets its contract: the marks of words and those of DACs are apart.
-- Assumes nothing.
use Rattle.join_questions.proofs.nothing_shared.Goals as goal

pub returns : goal.returns
returns c = rw (c.apart.ensures, c.apart-2.ensures)

-- `delay_questions::delay_at` meets its contract: the part of the machine that is handed on runs to its end.
-- Assumes nothing.
use Rattle.base_lists.proofs.Parts.{part-from}
use Rattle.delay_questions.proofs.delay_at.Goals as goal

pub returns : goal.returns
returns c = rw (c.load.ensures, part-from)

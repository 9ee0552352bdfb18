-- `join_questions::own_generator` meets its contract: the run mode and GFM are the generator's.
-- Assumes nothing.
use Rattle.join_questions.proofs.own_generator.Goals as goal

pub returns : goal.returns
returns c = rw (c.run_mode-run.ensures, c.gfm-input.ensures)

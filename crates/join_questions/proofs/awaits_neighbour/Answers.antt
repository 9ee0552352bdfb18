-- `join_questions::awaits_neighbour` meets its contract: the run mode is generator 0's.
-- Assumes nothing.
use Rattle.join_model.specs.Join.{awaits_neighbour}
use Rattle.join_questions.proofs.awaits_neighbour.Goals as goal

pub returns : goal.returns
unfolding awaits_neighbour
returns c = rw c.run_mode-run.ensures

-- `chain_numbers::find` ends: i falls at each call.
-- Assumes nothing.
use Rattle.chain_numbers.proofs.+find.Given as goal

abbrev pub decreases-find : goal.decreases-find
decreases-find l = l.i

-- `pass_sums::quadrant_word` meets its contract: by the law of a quadrant's word.
-- Assumes nothing.
use Rattle.pass_sums.proofs.Memory.{word-code}
use Rattle.pass_sums.proofs.quadrant_word.Goals as goal

pub returns : goal.returns
returns c = word-code _ _

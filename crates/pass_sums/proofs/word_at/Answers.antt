-- `pass_sums::word_at` meets its contract: by the law of a quadrant's word.
-- Assumes nothing.
use Rattle.pass_sums.proofs.Memory.{word-code}
use Rattle.pass_sums.proofs.word_at.Goals as goal

pub returns : goal.returns
returns c = word-code _ _

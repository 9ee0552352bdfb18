-- `speed::multiplied` meets its contract: a sum of 20 bits is within its width.
-- Assumes nothing.
use Rattle.base_words.specs.Words.{sum}
use Rattle.base_words.proofs.Residues.{low-lt}
use Rattle.speed.proofs.multiplied.Goals as goal

pub returns : goal.returns
unfolding sum
returns c = rw c.add.ensures.as_signed (low-lt 20 _)

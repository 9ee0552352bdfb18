-- `modifier::added` meets its contract: the sum's promise, and its width.
-- Assumes nothing.
use Rattle.base_words.proofs.Residues.{sum_low}
use Rattle.modifier.proofs.Low.{word_of}
use Rattle.modifier.proofs.added.Goals as goal

pub returns : goal.returns
returns c = word_of c.add.ensures.as_signed (sum_low 20 _ _)

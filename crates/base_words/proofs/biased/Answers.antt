-- `base_words::biased` meets its contract: by the law of the bias.
-- Assumes nothing.
use Rattle.std.proofs.Common.{◌-◌, arith}
use Rattle.base_words.proofs.Powers.{shifted, halved}
use Rattle.base_words.proofs.Ranges.{bias}
use Rattle.base_words.proofs.biased.Goals as goal

pub returns-clause-above : goal.returns-clause-above
returns-clause-above g c = rw (shifted g.row.W c.requires.width.1, shifted (g.row.W - 1) (omega arith)) (bias g.row.W _ (halved _ c.requires.width.0) c.requires.word)

-- `base_words::subtract` meets its contract: by the law of differences.
-- Assumes nothing.
use Rattle.std.proofs.Common.{arith}
use Rattle.base_words.proofs.Powers.{shifted, taken}
use Rattle.base_words.proofs.Residues.{minus-code}
use Rattle.base_words.proofs.subtract.Goals as goal

pub returns : goal.returns
returns g c = rw (shifted _ c.requires.width) (minus-code g.row.W _ _ _ (omega arith) (taken c.args.a c.args.b (omega arith) (omega arith)))

-- `base_words::add` meets its contract: by the law of sums, and by that of signed sums.
-- Assumes nothing.
use Rattle.std.proofs.Common.{arith, refl}
use Rattle.base_words.proofs.Powers.{shifted}
use Rattle.base_words.proofs.Residues.{plus-code, sum-code}
use Rattle.base_words.proofs.add.Goals as goal

pub returns-clause-as_unsigned : goal.returns-clause-as_unsigned
returns-clause-as_unsigned g c = rw (shifted _ c.requires.width) (plus-code g.row.W _ (omega arith) refl)

pub returns-clause-as_signed : goal.returns-clause-as_signed
returns-clause-as_signed g c = rw (shifted _ c.requires.width) (sum-code g.row.W _ _ (omega arith) c.requires.words.0 c.requires.words.1 refl)

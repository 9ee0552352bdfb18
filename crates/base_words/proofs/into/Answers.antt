-- `base_words::into` meets its contract: by the law of a word added into a wider register.
-- Assumes nothing.
use Rattle.std.proofs.Common.{sym, ◌∙◌, arith, refl}
use Rattle.base_words.proofs.Powers.{shifted}
use Rattle.base_words.proofs.Residues.{into-code, sum_into-is}
use Rattle.base_words.proofs.into.Goals as goal

pub returns-clause-as_unsigned : goal.returns-clause-as_unsigned
returns-clause-as_unsigned g c = rw (shifted _ c.requires.width) (into-code g.row.U 20 _ _ (omega arith) c.extend.ensures refl)

pub returns-clause-as_signed : goal.returns-clause-as_signed
returns-clause-as_signed g c = returns-clause-as_unsigned g c ∙ sym (sum_into-is g.row.U 20 _ _ c.requires.words.0)

-- `base_words::word` meets its contract: a negative number is 0 minus its magnitude, by the law of differences.
-- Assumes nothing.
use Rattle.std.proofs.Common.{pos, neg_ℤ, ap, ◌∙◌, arith, eq-eqb, ne_eqb}
use lib.IntN.{+ℤ_idl}
use Rattle.base_words.specs.Words.{low_bits, value_of}
use Rattle.base_words.proofs.Powers.{shifted, taken}
use Rattle.base_words.proofs.Residues.{minus-code}
use Rattle.base_words.proofs.word.Goals as goal

pub returns-then-s-eq0 : goal.returns-then-s-eq0
unfolding low_bits value_of
returns-then-s-eq0 g c = rw (eq-eqb _ 0 c.if-s-eq0.true, shifted _ c.requires.width)

pub returns-else-s-eq0 : goal.returns-else-s-eq0
unfolding value_of
returns-else-s-eq0 g c =
    rw (ne_eqb _ 0 c.if-s-eq0.false, shifted _ c.requires.width)
    (minus-code g.row.W 0 _ _ (omega arith) (taken 0 c.args.s.magnitude (omega arith) (omega arith))
    ∙ ap (low_bits g.row.W) (+ℤ_idl (neg_ℤ (pos c.args.s.magnitude))))

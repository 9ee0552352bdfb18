-- `base_words::extend` meets its contract: the bias taken off at 32 bits, by the law of differences.
-- Assumes nothing.
use Rattle.std.proofs.Common.{◌-◌, ◌^◌, sym, ap, ◌∙◌, mod-eq_of_lt, arith, lit≤}
use Rattle.std.proofs.lemmas.Nat.{pow_below}
use Rattle.base_words.specs.Words.{low_bits, extended}
use Rattle.base_words.proofs.Powers.{shifted, taken}
use Rattle.base_words.proofs.Residues.{minus-code}
use Rattle.base_words.proofs.extend.Goals as goal

pub returns : goal.returns
unfolding extended
returns g c =
    rw (shifted (g.row.W - 1) (omega arith))
    (sym (mod-eq_of_lt (omega arith))
    ∙ minus-code 32 _ (2 ^ (g.row.W - 1)) _ (lit≤ tt) (taken c.biased.result _ (omega arith) (omega (arith, pow_below (g.row.W - 1) 32 (omega arith))))
    ∙ ap (low_bits 32) (sym c.biased.ensures.above))

-- `base_words::low` meets its contract: the low bits of a signed word are its own.
-- Assumes nothing.
use Rattle.std.proofs.Common.{ℕ, ◌%◌, ◌^◌, sym, ap, ◌∙◌, arith}
use Rattle.base_words.specs.Words.{signed}
use Rattle.base_words.proofs.Powers.{shifted}
use Rattle.base_words.proofs.Residues.{low-low, low_signed}
use Rattle.base_words.proofs.low.Goals as goal

pub returns-clause-is : goal.returns-clause-is
returns-clause-is g c =
    let s = c.args.exact in
    rw (shifted _ c.requires.width) (ap (λ (n : ℕ). n % 2 ^ g.row.W) (sym (low_signed 32 s (omega arith))) ∙ low-low g.row.W 32 (signed 32 s) (omega arith))

-- `base_words::outside_range` meets its contract: by the law that the wrapped sum tells whether the exact one is outside.
-- Assumes nothing.
use Rattle.std.proofs.Common.{arith, refl}
use Rattle.std.proofs.Math.Pow.{pow_mono}
use Rattle.base_words.proofs.Powers.{shifted}
use Rattle.base_words.proofs.Ranges.{outside-code}
use Rattle.base_words.proofs.outside_range.Goals as goal

pub returns : goal.returns
returns g c =
    rw (shifted g.row.U (omega arith))
    (outside-code g.row.U 20 _ _ refl (omega (arith, pow_mono {i = g.row.U} {j = 30} (omega arith))) c.requires.words.0 c.requires.words.1 c.extend.ensures refl)

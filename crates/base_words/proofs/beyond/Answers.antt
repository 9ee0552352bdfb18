-- `base_words::beyond` meets its contract: by the law of a sum that leaves its range.
-- Assumes nothing.
use Rattle.std.proofs.Common.{◌-◌, ◌^◌, arith, refl}
use Rattle.std.proofs.Math.Pow.{pow_mono}
use Rattle.base_words.proofs.Powers.{shifted, halved}
use Rattle.base_words.proofs.Ranges.{beyond-code}
use Rattle.base_words.proofs.beyond.Goals as goal

pub returns : goal.returns
returns g c =
    rw (shifted g.row.W c.requires.width.1, shifted (g.row.W - 1) (omega arith))
    (beyond-code (2 ^ g.row.W) (2 ^ (g.row.W - 1)) c.args.exact (halved _ c.requires.width.0) (pow_mono {i = g.row.W} {j = 31} (omega arith)) (omega arith) refl)

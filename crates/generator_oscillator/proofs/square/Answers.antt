-- `generator_oscillator::square` meets its contract: the sign is K's, by the law of squares.
-- Assumes nothing.
use Rattle.std.proofs.Common.{◌-◌, arith}
use Rattle.base_words.specs.Words.{value_of}
use Rattle.base_words.proofs.Powers.{shifted}
use Rattle.generator_oscillator.proofs.Waves.{square-by, top-bit, half-low}
use Rattle.generator_oscillator.proofs.square.Goals as goal

pub returns : goal.returns
unfolding value_of
returns g c =
    record {
      is = rw (shifted (g.row.W - 2) (omega arith)) (square-by g.row.W _);
      bit = top-bit g.row.W _ c.requires.width.0 c.requires.word;
      low = rw (shifted (g.row.W - 2) (omega arith)) (half-low g.row.W c.requires.width.1);
    }

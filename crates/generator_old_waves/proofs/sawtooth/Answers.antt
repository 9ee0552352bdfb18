-- `generator_old_waves::sawtooth` meets its contract: each half of K's range is the word by sign and magnitude.
-- Assumes nothing.
use native.Mathlib.Omega.{arith}
use Rattle.base_words.specs.Words.{value_of}
use Rattle.generator_old_waves.proofs.Shapes.{word_low, word-high}
use Rattle.generator_old_waves.proofs.sawtooth.Goals as goal

pub returns-then-k-lt2048 : goal.returns-then-k-lt2048
unfolding value_of
returns-then-k-lt2048 c = record { is = word_low 12 _ c.if-k-lt2048.true; bit = omega arith; low = omega arith }

pub returns-else-k-lt2048 : goal.returns-else-k-lt2048
unfolding value_of
returns-else-k-lt2048 c = record { is = word-high 12 _ c.if-k-lt2048.false c.requires; bit = omega arith; low = omega arith }

-- `generator_oscillator::sawtooth` meets its contract: each half of K's range, by its law.
-- Assumes nothing.
use native.Mathlib.Omega.{arith}
use Rattle.base_words.specs.Words.{value_of}
use Rattle.generator_oscillator.proofs.Waves.{saw-low, saw-high}
use Rattle.generator_oscillator.proofs.sawtooth.Goals as goal

pub returns-then-k-lt4096 : goal.returns-then-k-lt4096
unfolding value_of
returns-then-k-lt4096 c = record { is = saw-low _ c.requires c.if-k-lt4096.true; bit = omega arith; low = omega arith }

pub returns-else-k-lt4096 : goal.returns-else-k-lt4096
unfolding value_of
returns-else-k-lt4096 c = record { is = saw-high _ c.requires c.if-k-lt4096.false; bit = omega arith; low = omega arith }

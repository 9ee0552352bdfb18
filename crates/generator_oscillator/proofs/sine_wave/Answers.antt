-- `generator_oscillator::sine_wave` meets its contract: sign and magnitude are those of the sine of K, the magnitude shifted.
-- Assumes nothing.
use Rattle.generator_oscillator.specs.Oscillator.{sine_wave}
use Rattle.generator_oscillator.proofs.Waves.{sign_bit, sign-value, shifted-low}
use Rattle.generator_oscillator.proofs.sine_wave.Goals as goal

pub returns : goal.returns
unfolding sine_wave
returns c =
    record {
      is = rw (c.sign.ensures, c.magnitude-whole.ensures) (sign-value _ _);
      bit = rw c.sign.ensures (sign_bit _);
      low = rw c.magnitude-whole.ensures (shifted-low _ _);
    }

-- `generator_oscillator::pulse` meets its contract: each arm is its side of the definition.
-- Assumes nothing.
use Rattle.std.proofs.Common.{◌-◌, arith}
use Rattle.base_words.specs.Words.{value_of}
use Rattle.base_words.proofs.Powers.{shifted}
use Rattle.generator_oscillator.specs.Oscillator.{pulse}
use Rattle.generator_oscillator.proofs.Waves.{half-low}
use Rattle.generator_oscillator.proofs.pulse.Goals as goal

pub returns-then-left : goal.returns-then-left
unfolding pulse value_of
returns-then-left g c =
    let half = shifted (g.row.W - 2) (omega arith) in
    record { is = rw (c.if-left.true, half); bit = omega arith; low = rw half (half-low g.row.W c.requires.1) }

pub returns-else-left : goal.returns-else-left
unfolding pulse value_of
returns-else-left g c = record { is = rw c.if-left.false; bit = omega arith; low = omega arith }

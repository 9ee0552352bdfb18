-- `generator::Generator::shaped` meets its contract: each arm is its oscillator mode's wave.
-- Assumes nothing.
use mathlib.Core.Path.{◌≡◌}
use Prim.Native.Nat.{◌%◌}
use native.Mathlib.Omega.{arith}
use Rattle.generator_oscillator.specs.Oscillator.{wave_of}
use Rattle.generator.proofs.Generator.shaped.Goals as goal

pub returns-in-1 : goal.returns-in-1
unfolding wave_of
returns-in-1 c = rw c.in-1.is c.sawtooth.ensures

pub returns-in-2 : goal.returns-in-2
unfolding wave_of
returns-in-2 c = rw c.in-2.is c.square.ensures

pub returns-in_default : goal.returns-in_default
unfolding wave_of
returns-in_default c = let e : c.args.self.gmode % 16 ≡ 3 = omega arith in rw (e, ← c.left_range.ensures) c.pulse.ensures

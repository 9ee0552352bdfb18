-- `generator_old::wave` meets its contract: each arm is its oscillator mode's wave, of the high 12 bits of E.
-- Assumes nothing.
use native.Mathlib.Omega.{arith}
use borrow.Author.Tests.{ne_eqb}
use Rattle.generator_old_waves.specs.OldWaves.{old_wave}
use Rattle.generator_old.proofs.OldTurns.{e-by-low}
use Rattle.generator_old.proofs.wave.Goals as goal

pub square-requires : goal.square-requires
square-requires c = omega (arith, c.angle_by-k.ensures, e-by-low c.args.unit c.args.j c.requires.ranged c.requires.j_bound)

pub sawtooth-requires : goal.sawtooth-requires
sawtooth-requires c = omega (arith, c.angle_by-k.ensures, e-by-low c.args.unit c.args.j c.requires.ranged c.requires.j_bound)

pub cosine-requires : goal.cosine-requires
cosine-requires c = (omega (arith, c.angle_by-k.ensures, e-by-low c.args.unit c.args.j c.requires.ranged c.requires.j_bound), c.requires.ranged.gm-low)

pub returns-in-1 : goal.returns-in-1
unfolding old_wave
returns-in-1 c = rw (c.in-1.is, ← c.angle_by-k.ensures) c.square.ensures

pub returns-in-2 : goal.returns-in-2
unfolding old_wave
returns-in-2 c = rw (c.in-2.is, ← c.angle_by-k.ensures) c.sawtooth.ensures

pub returns-in-3 : goal.returns-in-3
unfolding old_wave
returns-in-3 c = rw (c.in-3.is, ← c.left_range.ensures) c.pulse.ensures

pub returns-in_default : goal.returns-in_default
unfolding old_wave
returns-in_default c =
    let p = c.in_default.in_default-own.rest in
    simp (ne_eqb _ _ p.1, ne_eqb _ _ p.0.1, ne_eqb _ _ p.0.0.1) (rw (← c.angle_by-k.ensures) c.cosine.ensures)

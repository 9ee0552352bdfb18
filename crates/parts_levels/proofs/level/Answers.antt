-- `parts_levels::level` meets its contract: by whether the generator is to sound.
-- Assumes nothing.
use native.Mathlib.Omega.{arith}
use Rattle.parts_levels.proofs.SilentLevels.{sounds-here, silent-here}
use Rattle.parts_levels.proofs.level.Goals as goal

pub returns-then-g-s : goal.returns-then-g-s
returns-then-g-s c =
    let a = c.args in
    sounds-here a.text a.m.now a.s a.g c.silent_level-silent.ensures.0 c.if-g-s.true

pub returns : goal.returns
returns c =
    let a = c.args in
    silent-here a.text a.m.now a.s a.g c.silent_level-silent.ensures.0 c.silent_level-silent.ensures.1 c.if-g-s.false

pub overflow_add-result : goal.overflow_add-result
overflow_add-result c = omega (arith, c.silent_level-silent.ensures.1)

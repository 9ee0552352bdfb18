-- `parts_levels::levels` meets its contract: GL of the generators passed is filled.
-- Assumes nothing.
use mathlib.Core.Path.{◌≡◌, refl, ◌∙◌}
use Prim.Native.Nat.{◌+◌, ◌*◌}
use native.Mathlib.Omega.{arith}
use lib.ListN.{length-set}
use Rattle.layout.specs.Layout.{GL, generators, generator_words}
use Rattle.base_fills.proofs.Filled.{filled_none, filled_next}
use Rattle.parts_model.specs.Contents.{sounding_level}
use Rattle.parts_levels.proofs.levels.Goals as goal

pub loop-g-init : goal.loop-g-init
loop-g-init c =
    let a = c.args in
    (omega arith, filled_none GL generator_words (sounding_level a.text a.m.now a.s) a.run.now, refl)

pub level-requires : goal.level-requires
level-requires c = (c.requires.0, omega arith)

pub offset_bounds-run-g : goal.offset_bounds-run-g
offset_bounds-run-g c = omega (arith, c.loop-g.invariant.2, c.requires.1)

pub bounds-run-g : goal.bounds-run-g
bounds-run-g c = omega (arith, c.loop-g.invariant.2, c.requires.1)

pub loop-g-preserved : goal.loop-g-preserved
loop-g-preserved c =
    let a = c.args in (
      omega arith,
      rw c.level.ensures (filled_next GL generator_words c.loop-g.g (sounding_level a.text a.m.now a.s) a.run.now c.loop-g.invariant.1),
      length-set c.loop-g.run (GL + generator_words * c.loop-g.g) _ ∙ c.loop-g.invariant.2,
    )

pub returns : goal.returns
returns c =
    let e : c.loop-g.g ≡ generators = omega arith in
    rw (← e) c.loop-g.invariant.1

pub shape_of-run : goal.shape_of-run
shape_of-run c = c.loop-g.invariant.2

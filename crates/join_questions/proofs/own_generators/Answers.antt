-- `join_questions::own_generators` meets its contract: the generators passed are such ones.
-- Assumes nothing.
use mathlib.Core.Path.{◌≡◌, refl}
use native.Mathlib.Omega.{arith}
use native.Mathlib.Numerals.{add-one}
use Rattle.layout.specs.Machine.{ticks_of}
use Rattle.join_model.specs.Join.{own_generators}
use Rattle.join_questions.proofs.own_generators.Goals as goal

pub ticks-below-requires : goal.ticks-below-requires
ticks-below-requires c = c.requires.reaches

pub own_generator-ok-requires : goal.own_generator-ok-requires
own_generator-ok-requires c = record { usable = c.requires; g_lt_generators = omega (arith, c.ticks-below.ensures, c.requires.ticks) }

pub loop-g-init : goal.loop-g-init
loop-g-init c = refl

pub loop-g-preserved : goal.loop-g-preserved
loop-g-preserved c = rw (add-one c.loop-g.g, ← c.loop-g.invariant, c.own_generator-ok.ensures) refl

pub returns : goal.returns
unfolding own_generators
returns c =
    let e : c.loop-g.g ≡ ticks_of c.args.m.now = omega (arith, c.ticks-below.ensures) in
    rw (← e) c.loop-g.invariant

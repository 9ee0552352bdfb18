-- `command_misc::release` meets its contract: the generators passed are released.
-- Assumes nothing.
use mathlib.Core.Path.{refl, ◌∙◌}
use native.Mathlib.Omega.{arith}
use Rattle.command_misc.proofs.Releases.{none-released, one_more, all-released}
use Rattle.layout.proofs.Reach.{same-reach}
use Rattle.command_misc.proofs.release.Goals as goal

pub loop-g-init : goal.loop-g-init
loop-g-init c = (refl, none-released _ _)

pub release_one-requires : goal.release_one-requires
release_one-requires c = record { reaches = same-reach c.loop-g.invariant.0 c.requires; g_bound = omega arith }

pub loop-g-preserved : goal.loop-g-preserved
loop-g-preserved c =
    let a = c.args in
    (c.release_one.auto.m ∙ c.loop-g.invariant.0, one_more a.run c.loop-g.g a.m.now c.loop-g.invariant.1 c.release_one.ensures)

pub returns : goal.returns
returns c = all-released c.args.run c.loop-g.g c.args.m.now (omega arith) c.loop-g.invariant.1

pub shape_of-m : goal.shape_of-m
shape_of-m c = c.loop-g.invariant.0

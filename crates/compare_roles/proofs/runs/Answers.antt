-- `compare_roles::runs` meets its contract: the generators passed have their run modes.
-- Assumes nothing.
use mathlib.Core.Path.{refl, ◌∙◌}
use Prim.Native.Nat.{◌<◌}
use native.Mathlib.Omega.{arith}
use lib.ListN.{length-set}
use Rattle.compare_roles.proofs.Filled.{run-low, filled_none, filled_next, filled-all}
use Rattle.compare_roles.proofs.runs.Goals as goal

pub loop-g-init : goal.loop-g-init
loop-g-init c = let a = c.args in (refl, filled_none a.text a.m.now _)

pub overflow_cast-runs : goal.overflow_cast-runs
overflow_cast-runs c =
    let a = c.args in
    let low : c.loop-g.g < 256 = omega (arith, c.ticks-t.ensures, c.requires.reaches.1) in
    omega (arith, c.run_mode-run.ensures, run-low a.text a.m.now c.loop-g.g (c.requires.within.gmodes c.loop-g.g low))

pub loop-g-preserved : goal.loop-g-preserved
loop-g-preserved c =
    let a = c.args in
    let low : c.loop-g.g < 256 = omega (arith, c.ticks-t.ensures, c.requires.reaches.1) in (
      length-set c.loop-g.runs c.loop-g.g _ ∙ c.loop-g.invariant.0,
      filled_next a.text a.m.now c.loop-g.runs c.loop-g.g c.loop-g.invariant.0 low c.run_mode-run.ensures (run-low a.text a.m.now c.loop-g.g (c.requires.within.gmodes c.loop-g.g low)) c.loop-g.invariant.1,
    )

pub returns : goal.returns
returns c =
    let a = c.args in
    filled-all a.text a.m.now c.loop-g.runs (omega (arith, c.ticks-t.ensures)) c.loop-g.invariant.1

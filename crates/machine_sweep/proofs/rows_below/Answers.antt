-- `machine_sweep::rows_below` meets its contract: the places passed are below their limits.
-- Assumes nothing.
use mathlib.Core.Path.{refl}
use Rattle.machine_sweep.specs.AsCoded.{rows_below}
use Rattle.machine_sweep.proofs.Rows.{rows_next}
use Rattle.machine_sweep.proofs.rows_below.Goals as goal

pub loop-i-init : goal.loop-i-init
unfolding rows_below
loop-i-init c = refl

pub loop-i-preserved : goal.loop-i-preserved
loop-i-preserved c =
    let a = c.args in
    rows_next a.limits.now a.m.now a.at c.loop-i.i c.loop-i.ok c.loop-i.invariant

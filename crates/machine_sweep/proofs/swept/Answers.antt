-- `machine_sweep::swept` meets its contract: the rows passed are below their limits.
-- Assumes nothing.
use mathlib.Core.Path.{refl}
use Prim.Native.Nat.{◌*◌}
use native.Mathlib.Omega.{arith}
use lib.ListN.{length}
use Rattle.machine_sweep.specs.AsCoded.{swept}
use Rattle.machine_sweep.proofs.Rows.{rows_inside, swept-next}
use Rattle.machine_sweep.proofs.swept.Goals as goal

pub loop-k-init : goal.loop-k-init
unfolding swept
loop-k-init c = refl

pub overflow_mul-rows-in-loop-k : goal.overflow_mul-rows-in-loop-k
overflow_mul-rows-in-loop-k c =
    let a = c.args in
    omega (arith, rows_inside a.at (8 * length a.limits.now) c.loop-k.k a.times (length a.m.now) (omega arith) c.requires)

pub overflow_add-at : goal.overflow_add-at
overflow_add-at c =
    let a = c.args in
    omega (arith, rows_inside a.at (8 * length a.limits.now) c.loop-k.k a.times (length a.m.now) (omega arith) c.requires)

pub rows_below-ok-requires : goal.rows_below-ok-requires
rows_below-ok-requires c =
    let a = c.args in
    omega (arith, rows_inside a.at (8 * length a.limits.now) c.loop-k.k a.times (length a.m.now) (omega arith) c.requires)

pub loop-k-preserved : goal.loop-k-preserved
loop-k-preserved c =
    let a = c.args in
    rw (c.rows_below-ok.ensures, c.loop-k.invariant) (swept-next a.limits.now a.m.now a.at c.loop-k.k)

-- `machine_sweep::rows_below` meets its contract: the places passed are below their limits.
-- Assumes nothing.
use mathlib.Core.Path.{◌≡◌}
use Rattle.machine_sweep.specs.AsCoded.{rows_below}
use Rattle.machine_sweep.proofs.rows_below.Given as goal

abbrev pub invariant-loop-i : goal.invariant-loop-i
invariant-loop-i l = l.ok ≡ rows_below l.limits l.m l.at l.i

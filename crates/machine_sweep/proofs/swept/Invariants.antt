-- `machine_sweep::swept` meets its contract: the rows passed are below their limits.
-- Assumes nothing.
use mathlib.Core.Path.{◌≡◌}
use Rattle.machine_sweep.specs.AsCoded.{swept}
use Rattle.machine_sweep.proofs.swept.Given as goal

abbrev pub invariant-loop-k : goal.invariant-loop-k
invariant-loop-k l = l.ok ≡ swept l.limits l.m l.at l.k

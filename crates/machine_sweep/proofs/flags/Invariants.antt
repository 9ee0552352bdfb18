-- `machine_sweep::flags` meets its contract: the flags passed are those of the mask.
-- Assumes nothing.
use mathlib.Core.Path.{◌≡◌}
use mathlib.Core.Bool.{false}
use Prim.Native.Nat.{ℕ, ◌<◌}
use lib.ListN.{length, get_or}
use Rattle.machine_sweep.specs.AsCoded.{flag_of}
use Rattle.machine_sweep.proofs.flags.Given as goal

abbrev pub invariant-loop-k : goal.invariant-loop-k
invariant-loop-k g l = (length l.t ≡ g.row.N) × ((k : ℕ) → k < l.k → get_or l.t k false ≡ flag_of l.mask k)

-- `any_order_counts::shift_roles` meets its contract: the generators passed have moved.
-- Assumes nothing.
use mathlib.Core.Path.{◌≡◌}
use Prim.Native.Nat.{◌≤◌, ◌-◌}
use Rattle.any_order_counts.specs.AsCoded.{roles_moved}
use Rattle.any_order_counts.proofs.shift_roles.Given as goal

abbrev pub invariant-loop-g : goal.invariant-loop-g
invariant-loop-g l = (l.from ≤ l.g) × (l.g - l.from ≤ l.end - l.from) × (l.kept ≡ roles_moved l.up l.m l.initial.kept l.from (l.g - l.from))

-- The differences in the polynomial are never cut off at 0: one test over the 2,048 entries.
-- Assumes nothing.
use mathlib.Core.Path.{◌≡◌}
use mathlib.Core.Bool.{true}
use Prim.Native.Nat.{ℕ, ◌<◌}
use Rattle.base_lists.proofs.Tests.{below}
use Rattle.generator_sine.specs.Sine.{angle, first_three, exact}

pub exact-all : (j : ℕ) → j < 2048 → exact j ≡ true
unfolding exact first_three angle
exact-all j h = below exact 2048 tt j h

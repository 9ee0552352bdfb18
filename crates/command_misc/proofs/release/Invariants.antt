-- `command_misc::release` meets its contract: the generators passed are released.
-- Assumes nothing.
use mathlib.Core.Path.{◌≡◌}
use lib.ListN.{length}
use Rattle.command_misc.specs.Misc.{released_below}
use Rattle.command_misc.proofs.release.Given as goal

abbrev pub invariant-loop-g : goal.invariant-loop-g
invariant-loop-g l = (length l.m ≡ length l.initial.m) × (l.m ≡ released_below l.run l.initial.m l.g)

-- `compare_roles::runs` meets its contract: the generators passed have their run modes.
-- Assumes nothing.
use mathlib.Core.Path.{◌≡◌}
use lib.ListN.{length}
use Rattle.compare_roles.specs.AsCoded.{RunsBelow}
use Rattle.compare_roles.proofs.runs.Given as goal

abbrev pub invariant-loop-g : goal.invariant-loop-g
invariant-loop-g l = (length l.runs ≡ 256) × RunsBelow l.text l.m l.g l.runs

-- `parts_shown::first_different` meets its contract: the first place at which what is left differs, counted from the place reached.
-- Assumes nothing.
use mathlib.Core.Path.{◌≡◌}
use Prim.Native.Nat.{◌+◌}
use lib.ListN.{drop}
use Rattle.parts_shown.specs.Shown.{first_different}
use Rattle.parts_shown.proofs.first_different.Given as goal

abbrev pub invariant-loop-i : goal.invariant-loop-i
invariant-loop-i l = l.i + first_different (drop l.i l.first) (drop l.i l.second) ≡ first_different l.first l.second

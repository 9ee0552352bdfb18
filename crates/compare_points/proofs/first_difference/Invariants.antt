-- `compare_points::first_difference` meets its contract: the places passed hold the same numbers.
-- Assumes nothing.
use mathlib.Core.Path.{◌≡◌}
use Rattle.base_sequences.specs.Sequences.{first_failing}
use Rattle.compare_points.specs.AsCoded.{same_at}
use Rattle.compare_points.proofs.first_difference.Given as goal

abbrev pub invariant-loop-i : goal.invariant-loop-i
invariant-loop-i l = first_failing (same_at l.first l.second) l.i ≡ l.i

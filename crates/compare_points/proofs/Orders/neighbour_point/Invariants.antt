-- `compare_points::Orders::neighbour_point` meets its contract: the point holds at the generators passed.
-- Assumes nothing.
use mathlib.Core.Path.{◌≡◌}
use Rattle.base_sequences.specs.Sequences.{first_failing}
use Rattle.compare_points.specs.AsCoded.{sides, neighbour_by}
use Rattle.compare_points.proofs.Orders.neighbour_point.Given as goal

abbrev pub invariant-loop-g : goal.invariant-loop-g
invariant-loop-g l = first_failing (neighbour_by l.self.text l.self.m.now (sides l.self.first_trace.now l.self.second_trace.now)) l.g ≡ l.g

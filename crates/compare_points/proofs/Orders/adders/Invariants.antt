-- `compare_points::Orders::adders` meets its contract: the marks are those of the generators passed.
-- Assumes nothing.
use mathlib.Core.Path.{◌≡◌}
use Rattle.compare_points.specs.AsCoded.{sides, marks_of}
use Rattle.compare_points.proofs.Orders.adders.Given as goal

abbrev pub invariant-loop-g : goal.invariant-loop-g
invariant-loop-g l = l.marks ≡ marks_of l.self.text l.self.m.now (sides l.self.first_trace.now l.self.second_trace.now) l.self.first_trace.now.replaced.last l.g

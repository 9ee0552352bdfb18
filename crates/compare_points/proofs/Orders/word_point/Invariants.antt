-- `compare_points::Orders::word_point` meets its contract: the point holds at the words passed.
-- Assumes nothing.
use mathlib.Core.Path.{◌≡◌}
use Rattle.base_sequences.specs.Sequences.{first_failing}
use Rattle.compare_points.specs.AsCoded.{word_by}
use Rattle.compare_points.proofs.Orders.word_point.Given as goal

abbrev pub invariant-loop-w : goal.invariant-loop-w
invariant-loop-w l = first_failing (word_by l.self.first_trace.now.replaced l.self.second_trace.now.replaced l.marks) l.w ≡ l.w

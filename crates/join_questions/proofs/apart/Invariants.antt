-- `join_questions::apart` meets its contract: none of the marks passed stands in both.
-- Assumes nothing.
use mathlib.Core.Path.{◌≡◌}
use Rattle.join_questions.specs.AsCoded.{marks_apart}
use Rattle.join_questions.proofs.apart.Given as goal

abbrev pub invariant-loop-k : goal.invariant-loop-k
invariant-loop-k l = l.ok ≡ marks_apart l.first l.second l.at l.k

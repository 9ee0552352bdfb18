-- `join_questions::uses` meets its contract: the generators passed are marked.
-- Assumes nothing.
use mathlib.Core.Path.{◌≡◌}
use Rattle.join_questions.specs.AsCoded.{marked_to}
use Rattle.join_questions.proofs.uses.Given as goal

abbrev pub invariant-loop-g : goal.invariant-loop-g
invariant-loop-g l = l.used ≡ marked_to l.m l.g

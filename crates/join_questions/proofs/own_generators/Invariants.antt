-- `join_questions::own_generators` meets its contract: the generators passed are such ones.
-- Assumes nothing.
use mathlib.Core.Path.{◌≡◌}
use Rattle.base_lists.specs.Lists.{all_below}
use Rattle.join_model.specs.Join.{own_generator}
use Rattle.join_questions.proofs.own_generators.Given as goal

abbrev pub invariant-loop-g : goal.invariant-loop-g
invariant-loop-g l = l.ok ≡ all_below (own_generator l.m) l.g

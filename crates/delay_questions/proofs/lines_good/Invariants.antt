-- `delay_questions::lines_good` meets its contract: every modifier passed has a good line, or none that runs.
-- Assumes nothing.
use mathlib.Core.Path.{◌≡◌}
use mathlib.Core.Bool.{true}
use Rattle.base_lists.specs.Lists.{all_below}
use Rattle.delay_questions.specs.Questions.{good_line}
use Rattle.delay_questions.proofs.lines_good.Given as goal

abbrev pub invariant-loop-k : goal.invariant-loop-k
invariant-loop-k l = all_below (good_line l.m) l.k ≡ true

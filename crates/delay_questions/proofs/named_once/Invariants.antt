-- `delay_questions::named_once` meets its contract: the marks are those of the units that the modifiers passed invoke, each of them once.
-- Assumes nothing.
use mathlib.Core.Path.{◌≡◌}
use mathlib.Core.Bool.{true}
use Rattle.base_lists.specs.Lists.{all_below}
use Rattle.delay_questions.proofs.Named.{fresh, Marks}
use Rattle.delay_questions.proofs.named_once.Given as goal

abbrev pub invariant-loop-k : goal.invariant-loop-k
invariant-loop-k l = (Marks l.m l.marks l.k) × (all_below (fresh l.m) l.k ≡ true)

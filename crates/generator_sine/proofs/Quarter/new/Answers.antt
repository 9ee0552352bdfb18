-- `generator_sine::Quarter::new` meets its contract: antt computes the rule over the whole table.
-- Assumes nothing.
use mathlib.Core.Path.{refl}
use Rattle.base_lists.proofs.Tables.{agrees}
use Rattle.generator_sine.specs.Sine.{first_three, polynomial, angle, entry}
use Rattle.generator_sine.proofs.QuarterSine.{quarter-is}
use Rattle.generator_sine.proofs.Quarter.new.Goals as goal

pub invariant_of-result : goal.invariant_of-result
unfolding agrees entry polynomial first_three angle
invariant_of-result c = record { right = quarter-is _ refl tt }

-- `generator_exponential::Entries::new` meets its contract: antt computes the test over the whole table.
-- Assumes nothing.
use mathlib.Core.Path.{refl}
use lib.Dec.{lit<}
use Rattle.generator_exponential.specs.Exponential.{table_size, bound}
use Rattle.generator_exponential.proofs.LargestEntries.{right, entries-are}
use Rattle.generator_exponential.proofs.Entries.new.Goals as goal

pub invariant_of-result : goal.invariant_of-result
unfolding right bound
invariant_of-result c = record { right = entries-are table_size (lit< tt) _ refl tt }

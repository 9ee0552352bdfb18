-- Document 01's exponential table: antt computes the rule's test over all 256 numbers.
-- Assumes nothing.
use mathlib.Core.Path.{◌≡◌, refl}
use lib.Dec.{lit<}
use Rattle.generator_exponential.specs.Exponential.{older_size, bound, entries}
use Rattle.generator_exponential.specs.OlderTable.{older_table}
use Rattle.generator_exponential.proofs.LargestEntries.{right, entries-are}

pub older-table : older_table ≡ entries older_size
unfolding right bound
older-table = entries-are older_size (lit< tt) older_table refl tt

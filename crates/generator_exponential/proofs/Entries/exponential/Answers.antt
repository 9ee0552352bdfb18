-- `generator_exponential::Entries::exponential` meets its contract: the table has the entry at the exponent's low bits, and the shift divides it.
-- Assumes nothing.
use native.Mathlib.Omega.{arith}
use lib.Dec.{lit<}
use Rattle.generator_exponential.specs.Exponential.{table_size}
use Rattle.generator_exponential.proofs.LargestEntries.{exponential-at}
use Rattle.generator_exponential.proofs.Entries.exponential.Goals as goal

pub returns : goal.returns
returns c =
    rw (c.from.ensures, c.args.self.now.right)
    (exponential-at table_size _ _ _ (lit< tt) (omega arith) (omega arith))

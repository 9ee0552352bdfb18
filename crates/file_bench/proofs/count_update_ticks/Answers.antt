-- `file_bench::count_update_ticks` meets its contract: the word is set to the count of T and N.
-- Assumes nothing.
use Rattle.layout.specs.Machine.{with_update_ticks}
use Rattle.file_bench.proofs.count_update_ticks.Goals as goal

pub returns : goal.returns
unfolding with_update_ticks
returns c = rw c.update_ticks.ensures

-- `base_words::leaves_range` meets its contract: the exact sum's promise goes into the test's.
-- Assumes nothing.
use Rattle.base_words.specs.Words.{leaves}
use Rattle.base_words.proofs.leaves_range.Goals as goal

pub returns : goal.returns
unfolding leaves
returns g c = rw (← c.exact.ensures) c.beyond.ensures

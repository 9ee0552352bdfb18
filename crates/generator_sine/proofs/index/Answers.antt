-- `generator_sine::index` meets its contract: the fold by the quarter number's low bit is the place by quarters, by the test of the fold.
-- Assumes nothing.
use Rattle.generator_sine.proofs.Fold.{fold-index}
use Rattle.generator_sine.proofs.index.Goals as goal

pub returns : goal.returns
returns c = fold-index _ c.requires

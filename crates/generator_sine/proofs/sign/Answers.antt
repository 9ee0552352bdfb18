-- `generator_sine::sign` meets its contract: the quarter number's high bit is the sign, by the test of the fold.
-- Assumes nothing.
use Rattle.generator_sine.proofs.Fold.{fold-sign}
use Rattle.generator_sine.proofs.sign.Goals as goal

pub returns : goal.returns
returns c = fold-sign _ c.requires

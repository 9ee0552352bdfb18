-- `compare_points::Orders::word_same` meets its contract: its three tests are the definition's.
-- Assumes nothing.
use mathlib.Core.Path.{refl}
use Rattle.compare_points.specs.AsCoded.{same_at, word_by}
use Rattle.compare_points.proofs.Orders.word_same.Goals as goal

pub returns : goal.returns
unfolding word_by same_at
returns c = refl

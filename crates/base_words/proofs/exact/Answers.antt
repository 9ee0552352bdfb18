-- `base_words::exact` meets its contract: by the law of an exact sum.
-- Assumes nothing.
use Rattle.std.proofs.Common.{refl}
use Rattle.std.proofs.lemmas.Nat.{pow_below}
use Rattle.base_words.proofs.Powers.{halved}
use Rattle.base_words.proofs.Ranges.{exact-code}
use Rattle.base_words.proofs.exact.Goals as goal

pub returns : goal.returns
returns g c = exact-code g.row.W _ _ (halved _ c.requires.width.0) (pow_below _ 31 c.requires.width.1) c.requires.words.0 c.requires.words.1 c.extend.ensures c.extend-2.ensures refl

-- `modifier_product::less20` meets its contract: biased words are in the sequence of their integers.
-- Assumes nothing.
use mathlib.Core.Path.{sym}
use Prim.Native.Nat.{◌^◌}
use Rattle.base_words.proofs.Differences.{is-difference}
use Rattle.modifier_product.specs.Product.{less}
use Rattle.modifier_product.proofs.Integers.{less-difference}
use Rattle.modifier_product.proofs.less20.Goals as goal

pub returns : goal.returns
unfolding less
returns c =
    sym
    (less-difference
    (is-difference c.biased.result (2 ^ 19) c.biased.ensures.above)
    (is-difference c.biased-2.result (2 ^ 19) c.biased-2.ensures.above))

-- `modifier_product::half20` meets its contract: the biased word halved, by the law of `half`.
-- Assumes nothing.
use mathlib.Core.Path.{sym}
use Prim.Native.Nat.{◌^◌}
use Rattle.base_words.proofs.Differences.{is-difference}
use Rattle.modifier_product.specs.Product.{half}
use Rattle.modifier_product.proofs.Integers.{half-difference}
use Rattle.modifier_product.proofs.half20.Goals as goal

pub returns : goal.returns
unfolding half
returns c =
    sym
    (half-difference _ (is-difference c.biased.result (2 ^ 19) c.biased.ensures.above) c.biased.ensures.low)

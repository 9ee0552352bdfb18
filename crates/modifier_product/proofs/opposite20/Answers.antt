-- `modifier_product::opposite20` meets its contract: the product of 64 bits is the exact one, and its sign is tested.
-- Assumes nothing.
use mathlib.Core.Path.{ap}
use lib.IntN.{ℤ, pos}
use lib.Signed.{lt_z}
use Rattle.modifier_product.specs.Product.{opposite}
use Rattle.modifier_product.proofs.Integers.{is-fits, kept, exact}
use Rattle.modifier_product.proofs.opposite20.Goals as goal

pub overflow_mul-result : goal.overflow_mul-result
overflow_mul-result c =
    is-fits
    (exact _ _ c.requires.0 c.requires.1 c.value20.ensures c.value20-2.ensures)
    tt

pub returns : goal.returns
unfolding opposite
returns c =
    ap (λ (z : ℤ). lt_z z (pos 0))
    (kept
    (exact _ _ c.requires.0 c.requires.1 c.value20.ensures c.value20-2.ensures)
    tt).same

-- `modifier_product::multiplied` meets its contract: products of 64 bits give the integer where it is small.
-- Assumes nothing.
use Rattle.modifier_product.proofs.Integers.{is-fits, kept, scale, exact, at-scale}
use Rattle.modifier_product.proofs.multiplied.Goals as goal

pub overflow_cast-k-2 : goal.overflow_cast-k-2
overflow_cast-k-2 c = is-fits (scale _ c.requires.0) tt

pub overflow_mul-result : goal.overflow_mul-result
overflow_mul-result c =
    is-fits
    (exact _ _ c.requires.1 c.requires.2 c.value20.ensures c.value20-2.ensures)
    tt

pub overflow_mul-result-2 : goal.overflow_mul-result-2
overflow_mul-result-2 c =
    is-fits
    (at-scale _ _ c.requires.1 c.requires.2 c.value20.ensures c.value20-2.ensures _ c.requires.0)
    tt

pub returns : goal.returns
returns c =
    (kept
    (at-scale _ _ c.requires.1 c.requires.2 c.value20.ensures c.value20-2.ensures _ c.requires.0)
    tt).same

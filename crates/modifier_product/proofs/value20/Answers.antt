-- `modifier_product::value20` meets its contract: the bias taken off a word gives its integer.
-- Assumes nothing.
use Rattle.modifier_product.proofs.Integers.{is-fits, kept, unbiased}
use Rattle.modifier_product.proofs.value20.Goals as goal

pub overflow_sub-result : goal.overflow_sub-result
overflow_sub-result c = is-fits (unbiased _ _ c.requires c.biased.ensures.low c.biased.ensures.above) tt

pub returns : goal.returns
returns c = (kept (unbiased _ _ c.requires c.biased.ensures.low c.biased.ensures.above) tt).same

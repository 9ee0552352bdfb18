-- `modifier_product::multiply` meets its contract: sums and shifts of 64 bits give the integer where it is small, kind by kind.
-- Assumes nothing.
use mathlib.Core.Path.{ap, ◌∙◌}
use Rattle.base_words.specs.Words.{low_bits}
use Rattle.modifier_product.specs.Product.{product, integer_product, whole_product}
use Rattle.modifier_product.proofs.Integers.{is-fits, is-small, kept, raised, shifted, scaled-is}
use Rattle.modifier_product.proofs.multiply.Goals as goal

pub overflow_add-z : goal.overflow_add-z
overflow_add-z c = is-fits (raised _ (scaled-is _ _ _ c.requires c.multiplied-z.ensures)) tt

pub low20-requires : goal.low20-requires
low20-requires c = is-small (kept (shifted _ (kept (raised _ (scaled-is _ _ _ c.requires c.multiplied-z.ensures)) tt)) tt) tt

pub low20-requires-in-Integer : goal.low20-requires-in-Integer
low20-requires-in-Integer c = is-small (kept (shifted _ (scaled-is _ _ _ c.requires c.multiplied-z.ensures)) tt) tt

pub low20-requires-in-Whole : goal.low20-requires-in-Whole
low20-requires-in-Whole c = is-small (scaled-is _ _ _ c.requires c.multiplied-z.ensures) tt

pub returns-in-Rounded : goal.returns-in-Rounded
unfolding product
returns-in-Rounded c =
    rw c.in-Rounded.is
    (c.low20.ensures
    ∙ ap (low_bits 20) (kept (shifted _ (kept (raised _ (scaled-is _ _ _ c.requires c.multiplied-z.ensures)) tt)) tt).same)

pub returns-in-Integer : goal.returns-in-Integer
unfolding integer_product
returns-in-Integer c =
    rw c.in-Integer.is
    (c.low20-in-Integer.ensures ∙ ap (low_bits 20) (kept (shifted _ (scaled-is _ _ _ c.requires c.multiplied-z.ensures)) tt).same)

pub returns-in-Whole : goal.returns-in-Whole
unfolding whole_product
returns-in-Whole c =
    rw c.in-Whole.is (c.low20-in-Whole.ensures ∙ ap (low_bits 20) (scaled-is _ _ _ c.requires c.multiplied-z.ensures).same)

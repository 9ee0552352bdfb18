-- `modifier::Modifier::times_signal` meets its contract: the product's promise, and its width.
-- Assumes nothing.
use Rattle.modifier.specs.Modifier.{times_signal}
use Rattle.modifier_product.proofs.Widths.{product-low}
use Rattle.modifier.proofs.Low.{word_of}
use Rattle.modifier.proofs.Modifier.times_signal.Goals as goal

pub returns : goal.returns
unfolding times_signal
returns c = word_of c.multiply.ensures (product-low _ _ _)

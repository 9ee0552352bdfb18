-- `generator_envelope::enveloped` meets its contract: the magnitude is rounded first and signed last.
-- Assumes nothing.
use mathlib.Core.Path.{ap, ◌∙◌}
use Rattle.base_words.specs.Words.{low_bits}
use native.Mathlib.Omega.{arith}
use Rattle.generator_envelope.specs.Envelope.{rounded}
use Rattle.generator_envelope.proofs.Levels.{product-fits, signed-last}
use Rattle.generator_envelope.proofs.enveloped.Goals as goal

pub overflow_mul-magnitude : goal.overflow_mul-magnitude
overflow_mul-magnitude c = omega (arith, product-fits c.requires.1 c.requires.2)

pub overflow_add-magnitude : goal.overflow_add-magnitude
overflow_add-magnitude c = omega (arith, product-fits c.requires.1 c.requires.2)

pub returns : goal.returns
unfolding rounded
returns c = c.word.ensures ∙ ap (low_bits 20) (signed-last _ _ _)

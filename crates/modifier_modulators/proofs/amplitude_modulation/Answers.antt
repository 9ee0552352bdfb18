-- `modifier_modulators::amplitude_modulation` meets its contract: (B+1)/2 is a word of 20 bits.
-- Assumes nothing.
use Rattle.modifier_product.proofs.Widths.{half-low}
use Rattle.modifier_modulators.proofs.amplitude_modulation.Goals as goal

pub four_quadrant-requires : goal.four_quadrant-requires
four_quadrant-requires c =
    record { ranged = c.requires.ranged; a_bound = (c.requires.a_bound.0, rw c.half20.ensures (half-low _)) }

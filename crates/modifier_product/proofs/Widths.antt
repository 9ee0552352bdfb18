-- What a modifier computes of words is a word of 20 bits.
-- Assumes nothing.
use Prim.Native.Nat.{ℕ, ◌^◌, ◌<◌}
use Rattle.base_words.proofs.Residues.{low-lt}
use Rattle.modifier_product.specs.Product.{product, integer_product, whole_product, half}

pub product-low : (s a b : ℕ) → product s a b < 2 ^ 20
unfolding product
product-low s a b = low-lt 20 _

pub integer-low : (s a b : ℕ) → integer_product s a b < 2 ^ 20
unfolding integer_product
integer-low s a b = low-lt 20 _

pub whole-low : (s a b : ℕ) → whole_product s a b < 2 ^ 20
unfolding whole_product
whole-low s a b = low-lt 20 _

pub half-low : (b : ℕ) → half b < 2 ^ 20
unfolding half
half-low b = low-lt 20 _

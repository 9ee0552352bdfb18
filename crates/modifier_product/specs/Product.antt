-- The modifiers' products of two signed words of 20 bits (document 01, "A modifier"), and what else a modifier asks of such words.
-- Assumes nothing.
use Rattle.std.specs.Prelude.{ℕ, ◌^◌, Bool, ℤ, pos, ◌+ℤ◌, ◌*ℤ◌}
use Rattle.std.specs.Int.Signed.{shr_z, lt_z}
use Rattle.base_words.specs.Words.{low_bits, signed}
use Rattle.modifier_product.specs.declared.Product.{Product}
use Rattle.modifier_product.specs.declared.Product.TheVariants.{Rounded, Integer, Whole}

-- ab times 2^s.
unfoldable pub scaled : ℕ → ℕ → ℕ → ℤ
scaled s a b = signed 20 a *ℤ signed 20 b *ℤ pos (2 ^ s)

-- The product at scale s: floor((ab times 2^s + 2^18) / 2^19), reduced to 20 bits. (`shr_z z m` is the floor of z / m.)
unfoldable pub product : ℕ → ℕ → ℕ → ℕ
product s a b = low_bits 20 (shr_z (scaled s a b +ℤ pos (2 ^ 18)) (2 ^ 19))

-- The integer product at scale s: floor(ab times 2^s / 4), reduced to 20 bits.
unfoldable pub integer_product : ℕ → ℕ → ℕ → ℕ
integer_product s a b = low_bits 20 (shr_z (scaled s a b) 4)

-- The integer product of the older text at scale s: ab times 2^s, reduced to 20 bits.
unfoldable pub whole_product : ℕ → ℕ → ℕ → ℕ
whole_product s a b = low_bits 20 (scaled s a b)

-- The product of a kind.
abbrev pub product_by : Product → ℕ → ℕ → ℕ → ℕ
product_by Rounded = product
product_by Integer = integer_product
product_by Whole = whole_product

-- Whether a is less than b.
unfoldable pub less : ℕ → ℕ → Bool
less a b = lt_z (signed 20 a) (signed 20 b)

-- Whether the exact product ab is negative.
unfoldable pub opposite : ℕ → ℕ → Bool
opposite a b = lt_z (signed 20 a *ℤ signed 20 b) (pos 0)

-- (b+1)/2 of a fraction b: floor((b + 524,288) / 2).
unfoldable pub half : ℕ → ℕ
half b = low_bits 20 (shr_z (signed 20 b +ℤ pos 524288) 2)

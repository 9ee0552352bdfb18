-- Words of w bits and the integers that they stand for (document 01, "The machine": a signed register is kept as its two's-complement bits; every sum is reduced to its low bits at its register's width).
-- Assumes nothing.
use Rattle.std.specs.Prelude.{◌≡◌, ℕ, suc, ◌-◌, ◌%◌, ◌^◌, ◌<◌, Bool, true, cond, ℤ, pos, negsuc, ◌+ℤ◌, neg_ℤ, ◌==◌, nat_le, nat_lt}
use Rattle.std.specs.Int.Signed.{mag}
use Rattle.base_words.specs.declared.SignMagnitude.{SignMagnitude}

-- The low w bits of an integer, as a number below 2^w. (`negsuc n` is -(n + 1).)
unfoldable pub low_bits : ℕ → ℤ → ℕ
low_bits w (pos n) = n % 2 ^ w
low_bits w (negsuc n) = 2 ^ w - 1 - n % 2 ^ w

-- The integer that a word n of w bits stands for in two's complement: n, or n - 2^w where its top bit is 1.
unfoldable pub signed : ℕ → ℕ → ℤ
signed w n = cond (nat_lt n (2 ^ (w - 1))) (pos n) (negsuc (2 ^ w - suc n))

-- The sum of two signed words of w bits, reduced to its low w bits.
unfoldable pub sum : ℕ → ℕ → ℕ → ℕ
sum w a b = low_bits w (signed w a +ℤ signed w b)

-- Whether that signed sum leaves its range, -2^(w-1) to 2^(w-1) - 1. (`mag` is n of n and of -(n + 1).)
unfoldable pub leaves : ℕ → ℕ → ℕ → Bool
leaves w a b = nat_le (2 ^ (w - 1)) (mag (signed w a +ℤ signed w b))

-- A signed word of w bits as one of u bits.
unfoldable pub extended : ℕ → ℕ → ℕ → ℕ
extended w u n = low_bits u (signed w n)

-- A signed word b of w bits added into a signed register a of u bits, reduced to its low u bits.
unfoldable pub sum_into : ℕ → ℕ → ℕ → ℕ → ℕ
sum_into u w a b = low_bits u (signed u a +ℤ signed w b)

-- The exact sum of an unsigned register a and a signed word b of w bits.
unfoldable pub exact_sum : ℕ → ℕ → ℕ → ℤ
exact_sum w a b = pos a +ℤ signed w b

-- Whether an integer is outside the range of an unsigned register of u bits, 0 to 2^u - 1.
unfoldable pub outside : ℕ → ℤ → Bool
outside u (pos n) = nat_le (2 ^ u) n
outside u (negsuc n) = true

-- The integer that a sign and a magnitude stand for: the sign is 0, or 1 where it is negative.
unfoldable pub value_of : SignMagnitude → ℤ
value_of s = cond (s.sign == 0) (pos s.magnitude) (neg_ℤ (pos s.magnitude))

-- A word r of 20 bits, and its value v.
pub record Word (v r : ℕ) : Type 0 where
  pub is : r ≡ v
  pub low : r < 2 ^ 20

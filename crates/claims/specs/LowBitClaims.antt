-- What document 01 claims of low bits: "Every sum is reduced to its low bits at its register's width", and "Low-bit reduction is shown for any width, and each register uses that".
-- Assumes nothing.
use Rattle.std.specs.Prelude.{ℕ, ◌+◌, ◌%◌, ◌^◌, ◌≤◌, ◌<◌, ◌≡◌, ℤ, pos, ◌+ℤ◌, ◌*ℤ◌}
use Rattle.base_words.specs.Words.{low_bits, signed, extended}

pub record LowBitClaims : Type 0 where
  -- The low w bits of an integer are the number below 2^w from which it differs by a multiple of 2^w.
  pub low-bits : (w n : ℕ) (k : ℤ) → n < 2 ^ w → low_bits w (pos n +ℤ k *ℤ pos (2 ^ w)) ≡ n
  -- A word of w bits in two's complement stands for an integer whose low w bits it is.
  pub low_signed : (w n : ℕ) → n < 2 ^ w → low_bits w (signed w n) ≡ n
  -- At any width w the sum of two words, reduced to its low bits, is the signed sum of the two, reduced.
  pub sum-reduced : (w a b : ℕ) → a < 2 ^ w → b < 2 ^ w → (a + b) % 2 ^ w ≡ low_bits w (signed w a +ℤ signed w b)
  -- As the code has it, at any width up to 32: the supplied wrapping add on 32-bit words, then a remainder by the register's power of two.
  pub sum-wrapped : (w a b : ℕ) → w ≤ 32 → a < 2 ^ w → b < 2 ^ w → (a + b) % 2 ^ 32 % 2 ^ w ≡ low_bits w (signed w a +ℤ signed w b)
  -- The same where a signed word b of w bits, extended to 32, is added into a register a of u bits, signed or unsigned.
  pub into-signed : (u w a b : ℕ) → u ≤ 32 → a < 2 ^ u → (a + extended w 32 b) % 2 ^ 32 % 2 ^ u ≡ low_bits u (signed u a +ℤ signed w b)
  pub into-unsigned : (u w a b : ℕ) → u ≤ 32 → (a + extended w 32 b) % 2 ^ 32 % 2 ^ u ≡ low_bits u (pos a +ℤ signed w b)

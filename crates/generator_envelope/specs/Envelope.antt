-- The envelope of a generator, and the wave under it (document 01, "A generator", steps 7 to 9; its exponential by request Q-5 of document 02).
-- Assumes nothing.
use Rattle.std.specs.Prelude.{ℕ, ◌+◌, ◌*◌, ◌/◌, ◌%◌, ◌^◌, Bool, cond, not, ◌&&◌, eqb, leb, ℤ, pos, neg_ℤ, nat_abs, ◌+ℤ◌, ◌-ℤ◌}
use Rattle.std.specs.Int.Signed.{non_neg}
use Rattle.base_words.specs.Words.{low_bits, exact_sum, outside}
use Rattle.generator_exponential.specs.Exponential.{table_size, exponent_of, exponential}

-- H: the high 12 bits of GQ.
abbrev pub h_of : ℕ → ℕ
h_of gq = gq / 2 ^ 12

-- Overflow: GQ plus GP leaves 0..16,777,215.
unfoldable pub overflows : ℕ → ℕ → Bool
overflows gq gp = outside 24 (exact_sum 20 gq gp)

-- GQ after GP is added into it: of an overflow a sticky envelope keeps the old GQ, a free one wraps.
unfoldable pub decayed : Bool → ℕ → ℕ → ℕ
decayed free gq gp = cond (overflows gq gp && not free) gq (low_bits 24 (exact_sum 20 gq gp))

-- Q: H in the envelope modes 00 and 01, the exponential of the high 14 bits of GQ in 10 and 11.
unfoldable pub q_of : ℕ → ℕ → ℕ
q_of mode gq = cond (leb 2 mode) (exponential table_size (exponent_of gq)) (h_of gq)

-- GL + Q, or GL - Q; its low 12 bits, unsigned.
abbrev pub level_by : Bool → ℕ → ℕ → ℕ
level_by plus gl q = low_bits 12 (cond plus (pos gl +ℤ pos q) (pos gl -ℤ pos q))

-- V: GL - Q in the envelope modes 00 and 10, GL + Q in 01 and 11.
unfoldable pub level : ℕ → ℕ → ℕ → ℕ
level mode gl gq = level_by (eqb (mode % 2) 1) gl (q_of mode gq)

-- The magnitude of P: (|W| times V + 32) div 64.
unfoldable pub rounded : ℕ → ℕ → ℕ
rounded w v = (w * v + 32) / 64

-- P: that magnitude with the sign of W times V. (V is not negative.)
unfoldable pub enveloped : ℤ → ℕ → ℤ
enveloped w v = cond (non_neg w) (pos (rounded (nat_abs w) v)) (neg_ℤ (pos (rounded (nat_abs w) v)))

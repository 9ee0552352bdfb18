-- The wave W of a generator by its oscillator mode (document 01, "A generator", step 6; document 02, Q-4). K has 13 bits; square and pulse are over its width, as the older text has 12 (Q-10).
-- Assumes nothing.
use Rattle.std.specs.Prelude.{ℕ, ◌-◌, ◌*◌, ◌/◌, ◌^◌, ◌<◌, min, Bool, cond, ◌≡◌, eqb, ℤ, pos, negsuc, neg_ℤ, nat_abs, ◌*ℤ◌}
use Rattle.std.specs.Int.Signed.{non_neg}
use Rattle.base_words.specs.declared.SignMagnitude.{SignMagnitude}
use Rattle.base_words.specs.Words.{low_bits, signed, value_of}
use Rattle.generator_sine.specs.Sine.{magnitude, negative}

-- 0001: K, but 0 at -4,096. (`negsuc 4095` is -4,096.)
unfoldable pub sawtooth : ℤ → ℤ
sawtooth (pos n) = pos n
sawtooth (negsuc n) = cond (eqb n 4095) (pos 0) (negsuc n)

-- Half of the largest magnitude of a K of b bits: 2,048 of 13.
abbrev pub half_of : ℕ → ℕ
half_of b = 2 ^ (b - 2)

-- 0010, of a K of b bits: minus that half if K is negative, else that half.
unfoldable pub square : ℕ → ℤ → ℤ
square b k = cond (non_neg k) (pos (half_of b)) (neg_ℤ (pos (half_of b)))

-- 0011, by the bits of K: that half if a signed sum left its range, else 0.
unfoldable pub pulse : ℕ → Bool → ℤ
pulse b left = cond left (pos (half_of b)) (pos 0)

-- 0000 and 1000: the sine of K, its magnitude shifted right GM places, then signed.
unfoldable pub sine_wave : ℕ → ℕ → ℤ
sine_wave k gm = cond (negative k) (neg_ℤ (pos (magnitude k / 2 ^ gm))) (pos (magnitude k / 2 ^ gm))

-- The sine at an unsigned index of 13 bits, before any shift.
unfoldable pub sine_at : ℕ → ℤ
sine_at i = cond (negative i) (neg_ℤ (pos (magnitude i))) (pos (magnitude i))

-- The low 12 bits of K times GN, K signed and GN unsigned.
unfoldable pub multiple : ℕ → ℕ → ℕ
multiple k gn = low_bits 12 (signed 13 k *ℤ pos gn)

-- The whole part of 4,095 times |s| over (|d| times 2^GM), at most 4,095.
unfoldable pub ratio : ℤ → ℤ → ℕ → ℕ
ratio s d gm = min 4095 (4095 * nat_abs s / (nat_abs d * 2 ^ gm))

-- 0100, the sum of cosines: s is the sine at index 2p, p the low 12 bits of K times GN, and d the sine at K, which is never 0 (the law `sine-not-zero`).
-- The magnitude is the ratio of the two, the sign that of s times d.
unfoldable pub sum_of_cosines : ℕ → ℕ → ℕ → ℤ
sum_of_cosines k gn gm =
    let s = sine_at (2 * multiple k gn) in
    let d = sine_at k in
    cond (non_neg (s *ℤ d)) (pos (ratio s d gm)) (neg_ℤ (pos (ratio s d gm)))

-- W by the oscillator mode, of K as a word of 13 bits, GN, GM, and whether a signed sum of the generator left its range.
unfoldable pub wave_of : ℕ → ℕ → ℕ → ℕ → Bool → ℤ
wave_of mode k gn gm left =
    cond (eqb mode 0b0001) (sawtooth (signed 13 k))
    (cond (eqb mode 0b0010) (square 13 (signed 13 k))
    (cond (eqb mode 0b0011) (pulse 13 left)
    (cond (eqb mode 0b0100) (sum_of_cosines k gn gm)
    (sine_wave k gm))))

-- A sign and magnitude r stands for the wave w; its sign is 0 or 1, and its magnitude has 12 bits.
pub record Wave (w : ℤ) (r : SignMagnitude) : Type 0 where
  pub is : value_of r ≡ w
  pub bit : r.sign < 2
  pub low : r.magnitude < 2 ^ 12

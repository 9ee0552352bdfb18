-- The shapes of the wave by sign and magnitude.
-- Assumes nothing.
use mathlib.Core.Path.{◌≡◌, refl, ap, ◌∙◌}
use mathlib.Core.Bool.{Bool, true, false, cond}
use Prim.Native.Nat.{ℕ, suc, ◌-◌, ◌/◌, ◌%◌, ◌^◌, ◌<◌, ◌≤◌}
use native.Mathlib.Nat.{div-le_self, div-eq_of_lt, le-div_iff_mul-le, div-lt_iff_lt-mul, pow-le-pow_right}
use native.Mathlib.Omega.{arith}
use lib.Dec.{eqb, ltb}
use lib.IntN.{pos, negsuc, neg_ℤ}
use lib.Pow.{pow_pos}
use lib.Signed.{non_neg}
use borrow.Author.Tests.{lt-ltb, le-ltb, ltb-true, ltb-false, eq-eqb, ne_eqb, eqb-true, eqb-false}
use Rattle.base_words.specs.Words.{signed, value_of}
use Rattle.base_words.proofs.Powers.{halved}
use Rattle.base_words.proofs.Residues.{either-low}
use Rattle.generator_sine.specs.Sine.{magnitude, negative, sign_of}
use Rattle.generator_sine.proofs.QuarterSine.{magnitude-low}
use Rattle.generator_oscillator.specs.Oscillator.{sawtooth, half_of, square}

-- A negative K of 13 bits: its magnitude, but 0 at -4,096.
saw-negative : (n : ℕ) → n < 4096 → neg_ℤ (pos (suc n % 4096)) ≡ sawtooth (negsuc n)
unfolding sawtooth
saw-negative n h = go (eqb n 4095) refl
  where
    go : (b : Bool) → eqb n 4095 ≡ b → neg_ℤ (pos (suc n % 4096)) ≡ cond b (pos 0) (negsuc n)
    go true e = ap (λ (x : ℕ). neg_ℤ (pos x)) zero_left
      where
        zero_left : suc n % 4096 ≡ 0
        zero_left = omega (arith, eqb-true n 4095 e)
    go false e = ap (λ (x : ℕ). neg_ℤ (pos x)) all_left
      where
        below : (eqb n 4095 ≡ false) → n < 4095
        below e = omega (arith, eqb-false n 4095 e)

        all_left : suc n % 4096 ≡ suc n
        all_left = omega (arith, below e)

module _ (k : ℕ) (h : k < 2 ^ 13) where
  pub saw-low : k < 4096 → pos k ≡ sawtooth (signed 13 k)
  unfolding sawtooth signed
  saw-low l = simp (lt-ltb k 4096 l)

  pub saw-high : 4096 ≤ k → neg_ℤ (pos ((8192 - k) % 4096)) ≡ sawtooth (signed 13 k)
  unfolding signed
  saw-high l = simp (le-ltb k 4096 l) (ap (λ (x : ℕ). neg_ℤ (pos (x % 4096))) whole ∙ saw-negative (8192 - suc k) (omega arith))
    where
      whole : 8192 - k ≡ suc (8192 - suc k)
      whole = omega arith

-- The top bit of a word of b bits, and half of the largest magnitude of one of at most 13.
pub top-bit : (b k : ℕ) → 1 < b → k < 2 ^ b → k / 2 ^ (b - 1) < 2
top-bit b k h l = (div-lt_iff_lt-mul {k = 2 ^ (b - 1)} {x = k} {y = 2} (pow_pos (b - 1))).1 (omega (arith, halved b (omega arith)))

pub half-low : (b : ℕ) → b < 14 → half_of b < 2 ^ 12
half-low b h = omega (arith, pow-le-pow_right {n = 2} (omega arith) {i = b - 2} {j = 11} (omega arith))

-- The square of a word of b bits has the sign of its top bit.
pub square-by : (b k : ℕ) → cond (eqb (k / 2 ^ (b - 1)) 0) (pos (half_of b)) (neg_ℤ (pos (half_of b))) ≡ square b (signed b k)
unfolding square signed
square-by b k = go (ltb k (2 ^ (b - 1))) refl
  where
    go : (c : Bool) → ltb k (2 ^ (b - 1)) ≡ c →
        cond (eqb (k / 2 ^ (b - 1)) 0) (pos (half_of b)) (neg_ℤ (pos (half_of b)))
        ≡ cond (non_neg (cond c (pos k) (negsuc (2 ^ b - suc k)))) (pos (half_of b)) (neg_ℤ (pos (half_of b)))
    go true e = rw (eq-eqb (k / 2 ^ (b - 1)) 0 (div-eq_of_lt (ltb-true k (2 ^ (b - 1)) e)))
    go false e = rw (ne_eqb (k / 2 ^ (b - 1)) 0 (λ z. omega (arith, at_least_one)))
      where
        at_least_one : 1 ≤ k / 2 ^ (b - 1)
        at_least_one = (le-div_iff_mul-le {k = 2 ^ (b - 1)} {x = 1} {y = k} (pow_pos (b - 1))).1 (omega (arith, ltb-false k (2 ^ (b - 1)) e))

-- The sine's sign is 0 or 1, and with it a magnitude stands for the signed number.
pub sign_bit : (k : ℕ) → sign_of k < 2
unfolding sign_of
sign_bit k = either-low (negative k) (omega arith) (omega arith)

pub sign-value : (k n : ℕ) → value_of (record { sign = sign_of k; magnitude = n }) ≡ cond (negative k) (neg_ℤ (pos n)) (pos n)
unfolding value_of sign_of
sign-value k n = go (negative k)
  where
    go : (b : Bool) → cond (eqb (cond b 1 0) 0) (pos n) (neg_ℤ (pos n)) ≡ cond b (neg_ℤ (pos n)) (pos n)
    go true = refl
    go false = refl

-- A shifted sine has 12 bits.
pub shifted-low : (k gm : ℕ) → magnitude k / 2 ^ gm < 2 ^ 12
shifted-low k gm = omega (arith, div-le_self (magnitude k) (2 ^ gm), magnitude-low k)

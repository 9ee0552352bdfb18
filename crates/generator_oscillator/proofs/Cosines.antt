-- The sum of cosines by the code's numbers: the index by the low bits of a product, an exact shift to divide by, and the sign of a product of two sines.
-- Assumes nothing.
use mathlib.Core.Path.{◌≡◌, refl, sym}
use mathlib.Core.Bool.{Bool, true, false, cond}
use Prim.Native.Nat.{ℕ, zero, suc, ◌+◌, ◌*◌, ◌/◌, ◌%◌, ◌^◌, ◌<◌, ◌≤◌, min}
use native.Mathlib.Nat.{mul-le-mul, mod-eq_of_lt, le-mul_of_pos_right, pow-le-pow_right, min-le_left, min-eq_left, min-eq_right, le-div_iff_mul-le, div-le_of_le-mul, mul-div_cancel}
use native.Mathlib.Omega.{arith}
use lib.Dec.{eqb, ltb, lit≤}
use lib.IntN.{ℤ, pos, neg_ℤ, nat_abs, ◌*ℤ◌}
use lib.Pow.{pow_pos}
use lib.Signed.{non_neg}
use borrow.Author.Tests.{ltb-true, ltb-false}
use Rattle.base_words.specs.Words.{signed, value_of}
use Rattle.base_words.proofs.Residues.{low-lt, low-times}
use Rattle.generator_sine.specs.Sine.{magnitude, negative, sign_of}
use Rattle.generator_sine.proofs.QuarterSine.{magnitude-low, magnitude-positive}
use Rattle.generator_oscillator.specs.Oscillator.{sine_at, multiple, ratio, sum_of_cosines, Wave}

-- K read unsigned times GN has the low 12 bits of K times GN.
pub multiple-is : (k gn : ℕ) → k < 2 ^ 13 → k * gn % 2 ^ 12 ≡ multiple k gn
unfolding multiple
multiple-is k gn h = sym (low-times 12 13 k gn (lit≤ tt) h)

pub product-fits : {k gn : ℕ} → k < 2 ^ 13 → gn < 2 ^ 11 → k * gn ≤ 8191 * 2047
product-fits {k} {gn} h l = mul-le-mul {n₁ = k} {m₁ = gn} {n₂ = 8191} {m₂ = 2047} (omega arith) (omega arith)

-- Twice it is an index of a sine.
pub index-low : (k gn : ℕ) → 2 * multiple k gn < 8192
unfolding multiple
index-low k gn = omega (arith, low-lt 12 (signed 13 k *ℤ pos gn))

-- A sine shifted left GM places loses no bit, and is not 0.
shifted_fits : (k gm : ℕ) → gm < 2 ^ 4 → magnitude k * 2 ^ gm ≤ 4095 * 2 ^ 15
shifted_fits k gm h = mul-le-mul {n₁ = magnitude k} {m₁ = 2 ^ gm} {n₂ = 4095} {m₂ = 2 ^ 15} (magnitude-low k) (pow-le-pow_right {n = 2} (lit≤ tt) {i = gm} {j = 15} (omega arith))

pub shifted-exact : (k gm : ℕ) → gm < 2 ^ 4 → magnitude k * 2 ^ gm % 2 ^ 32 ≡ magnitude k * 2 ^ gm
shifted-exact k gm h = mod-eq_of_lt (omega (arith, shifted_fits k gm h))

pub shifted-positive : (k gm : ℕ) → 0 < magnitude k * 2 ^ gm
shifted-positive k gm = omega (arith, magnitude-positive k, le-mul_of_pos_right (magnitude k) (pow_pos gm))

-- The quotient of the smaller of s and b by b is the quotient of s, capped: where b is the smaller it is the most, 4,095.
cap-small : (s b : ℕ) → 0 < b → s < b → 4095 * min s b / b ≡ min 4095 (4095 * s / b)
cap-small s b p l = rw (min-eq_left {n = s} {m = b} (omega arith)) (sym (min-eq_right {n = 4095 * s / b} {m = 4095} (div-le_of_le-mul b fits)))
  where
    fits : 4095 * s ≤ b * 4095
    fits = omega arith

cap-large : (s b : ℕ) → 0 < b → b ≤ s → 4095 * min s b / b ≡ min 4095 (4095 * s / b)
cap-large s b p l =
    rw (min-eq_right {n = b} {m = s} l, mul-div_cancel 4095 {n = b} p)
    (sym (min-eq_left {n = 4095} {m = 4095 * s / b} ((le-div_iff_mul-le {k = b} {x = 4095} {y = 4095 * s} p).1 (omega arith))))

-- A sine or a smaller number is at most 4,095.
pub smaller-low : (i b : ℕ) {s n : ℕ} → n ≡ min s b → s ≡ magnitude i → n ≤ 4095
smaller-low i b {s} h k = omega (arith, h, k, min-le_left s b, magnitude-low i)

pub cap-first : (s b : ℕ) → 0 < b → 4095 * min s b / b ≡ min 4095 (4095 * s / b)
cap-first s b p = go (ltb s b) refl
  where
    go : (c : Bool) → ltb s b ≡ c → 4095 * min s b / b ≡ min 4095 (4095 * s / b)
    go true e = cap-small s b p (ltb-true s b e)
    go false e = cap-large s b p (ltb-false s b e)

-- A number with a sign, its magnitude, and whether a product of two such is negative.
abbrev signed_by : Bool → ℕ → ℤ
signed_by b n = cond b (neg_ℤ (pos n)) (pos n)

abs-signed : (b : Bool) (n : ℕ) → nat_abs (signed_by b n) ≡ n
abs-signed false n = refl
abs-signed true zero = refl
abs-signed true (suc n) = refl

abs-sine : (i : ℕ) → nat_abs (sine_at i) ≡ magnitude i
unfolding sine_at
abs-sine i = abs-signed (negative i) (magnitude i)

-- The product of two numbers that are not 0 is negative where just one of them is.
minus-negative : (n : ℕ) → 0 < n → non_neg (neg_ℤ (pos n)) ≡ false
minus-negative zero h = absurd (omega arith)
minus-negative (suc n) h = refl

product-positive : (a b : ℕ) → 0 < suc a * suc b
product-positive a b = omega (arith, le-mul_of_pos_right {m = suc b} (suc a) (omega arith))

product-sign : (x y : Bool) (a b : ℕ) → non_neg (signed_by x (suc a) *ℤ signed_by y (suc b)) ≡ eqb ((cond x 1 0 + cond y 1 0) % 2) 0
product-sign false false a b = refl
product-sign false true a b = minus-negative (suc a * suc b) (product-positive a b)
product-sign true false a b = minus-negative (suc a * suc b) (product-positive a b)
product-sign true true a b = refl

not-zero-sign : (x y : Bool) (a b : ℕ) → 0 < a → 0 < b → non_neg (signed_by x a *ℤ signed_by y b) ≡ eqb ((cond x 1 0 + cond y 1 0) % 2) 0
not-zero-sign x y zero b p q = absurd (omega arith)
not-zero-sign x y (suc a) zero p q = absurd (omega arith)
not-zero-sign x y (suc a) (suc b) p q = product-sign x y a b

sine-signs : (i k : ℕ) → non_neg (sine_at i *ℤ sine_at k) ≡ eqb ((sign_of i + sign_of k) % 2) 0
unfolding sine_at sign_of
sine-signs i k = not-zero-sign (negative i) (negative k) (magnitude i) (magnitude k) (magnitude-positive i) (magnitude-positive k)

-- The wave, of its index, quotient and sign.
pub cosines-are : (k gn gm i n s : ℕ) → i ≡ 2 * multiple k gn → n ≡ min 4095 (4095 * magnitude i / (magnitude k * 2 ^ gm)) → s ≡ (sign_of i + sign_of k) % 2
    → Wave (sum_of_cosines k gn gm) (record { sign = s; magnitude = n })
unfolding sum_of_cosines ratio value_of
cosines-are k gn gm i n s is-i is-n is-s =
    record {
      is = rw (← is-i, sine-signs i k, abs-sine i, abs-sine k, ← is-n, ← is-s);
      bit = rw is-s (omega arith);
      low = rw is-n (omega (arith, min-le_left 4095 (4095 * magnitude i / (magnitude k * 2 ^ gm))));
    }

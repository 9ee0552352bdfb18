-- A signed word by its bias, a number 2^(w-1) above it; and whether an exact sum leaves its range, told from such numbers, at any width.
-- Assumes nothing.
use Rattle.std.proofs.Common.{◌≡◌, ℕ, suc, ◌+◌, ◌-◌, ◌%◌, ◌^◌, ◌<◌, ◌≤◌, Bool, true, false, cond, not, T, ltb, leb, ℤ, pos, negsuc, ◌+ℤ◌, ◌-ℤ◌, sym, refl, ap, ◌∙◌, mod-lt, mod-eq_of_lt, arith, lit≤, ltb→lt, nltb→le, pow_pos, ltb-false, ltb-true, le-ltb, lt-ltb, le-leb, leb-false, leb-true}
use native.Mathlib.Nat.{mod-eq-sub-mod}
use lib.Signed.{mag}
use borrow.Author.Tests.{lt-leb}
use Rattle.base_words.specs.Words.{low_bits, signed, extended, exact_sum, outside}
use Rattle.base_words.proofs.Differences.{add-law, Difference, is-difference, sum-difference, is-minus}
use Rattle.base_words.proofs.Residues.{into-code, low-add}

-- A word of m numbers, where a test against t tells its halves, of h numbers, apart.
halves : (t m h n : ℕ) → m ≡ h + h → n < m → (n < t → n < h) → (t ≤ n → h ≤ n)
    → Difference (cond (ltb n t) (pos n) (negsuc (m - suc n))) ((n + h) % m) h
halves t m h n e k f g = by (ltb n t) (λ b. f (ltb→lt n t b)) (λ b. g (nltb→le n t b))
  where
    by : (c : Bool) → (T c → n < h) → (T (not c) → h ≤ n) → Difference (cond c (pos n) (negsuc (m - suc n))) ((n + h) % m) h
    by true f g = record { said = omega (arith, f tt, mod-eq_of_lt {n = n + h} {m = m} (omega (arith, f tt))) }
    by false f g = record {
      said = omega (arith, g tt, mod-eq-sub-mod {n = n + h} {m = m} (omega (arith, g tt)), mod-eq_of_lt {n = n + h - m} {m = m} (omega (arith, g tt)));
    }

pub bias : (w n : ℕ) → 2 ^ w ≡ 2 ^ (w - 1) + 2 ^ (w - 1) → n < 2 ^ w → signed w n ≡ pos ((n + 2 ^ (w - 1)) % 2 ^ w) -ℤ pos (2 ^ (w - 1))
unfolding signed
bias w n e k = is-minus (halves _ (2 ^ w) (2 ^ (w - 1)) n e k (λ l. omega arith) (λ l. omega arith))

-- Two tests that pass and fail together are one.
pub alike : (c d : Bool) → (c ≡ true → d ≡ true) → (c ≡ false → d ≡ false) → c ≡ d
alike true d f g = sym (f refl)
alike false d f g = sym (g refl)

-- An integer n - k, where n is below m + 2k.
mag-small : (m : ℕ) {z : ℤ} {n k : ℕ} → Difference z n k → n < m + (k + k) → 0 < k → mag z < m + k
mag-small m {z = pos a} d l p = omega arith
mag-small m {z = negsuc a} d l p = omega arith

-- Whether an integer is outside the range from 0 to 2^u - 1, by its low v bits: one below 0 has low bits above that range.
outside_low : (u v : ℕ) (z : ℤ) → mag z + 2 ^ u < 2 ^ v → leb (2 ^ u) (low_bits v z) ≡ outside u z
unfolding outside low_bits
outside_low u v (pos n) h = ap (leb (2 ^ u)) (mod-eq_of_lt (omega arith))
outside_low u v (negsuc n) h = le-leb (2 ^ u) _ (omega (arith, mod-eq_of_lt {n = n} {m = 2 ^ v} (omega arith)))

-- The code: whether the sum of an unsigned register of u bits and a signed word, wrapped at 32 bits to r, is outside the register's range.
module _ (u w a b : ℕ) (e : 2 ^ w ≡ 2 ^ (w - 1) + 2 ^ (w - 1)) (f : 2 ^ u + 2 ^ (w - 1) + 2 ^ u < 2 ^ 32) (ha : a < 2 ^ u) (hb : b < 2 ^ w) where
  exact : Difference (exact_sum w a b) (a + (b + 2 ^ (w - 1)) % 2 ^ w) (2 ^ (w - 1))
  unfolding exact_sum
  exact = record { said = omega (arith, add-law (pos a) (signed w b), (is-difference _ (2 ^ (w - 1)) (bias w b e hb)).said) }

  exact-small : mag (exact_sum w a b) < 2 ^ u + 2 ^ (w - 1)
  exact-small = mag-small (2 ^ u) exact (omega (arith, e, ha, mod-lt (b + 2 ^ (w - 1)) (pow_pos w))) (pow_pos (w - 1))

  pub outside-code : {x r : ℕ} → x ≡ extended w 32 b → r ≡ (a + x) % 2 ^ 32 → leb (2 ^ u) r ≡ outside u (exact_sum w a b)
  outside-code {x} {r} p q = ap (leb (2 ^ u)) whole ∙ outside_low u 32 (exact_sum w a b) (omega (arith, exact-small, f))
    where
      whole : r ≡ low_bits 32 (exact_sum w a b)
      whole = sym (mod-eq_of_lt (omega (arith, q))) ∙ into-code 32 w a b (lit≤ tt) p q

-- A signed word of v bits whose low bits are those of an integer within its range is that integer.
signed_low : (v : ℕ) (z : ℤ) → 2 ^ v ≡ 2 ^ (v - 1) + 2 ^ (v - 1) → mag z < 2 ^ (v - 1) → signed v (low_bits v z) ≡ z
unfolding signed low_bits
signed_low v (pos n) e h = rw (mod-eq_of_lt {n = n} {m = 2 ^ v} (omega (arith, e, h)), lt-ltb n (2 ^ (v - 1)) h)
signed_low v (negsuc n) e h = rw (mod-eq_of_lt {n = n} {m = 2 ^ v} (omega (arith, e, h)), le-ltb _ (2 ^ (v - 1)) top) (ap negsuc back)
  where
    top : 2 ^ (v - 1) ≤ 2 ^ v - 1 - n
    top = omega (arith, e, h)

    back : 2 ^ v - suc (2 ^ v - 1 - n) ≡ n
    back = omega (arith, e, h)

-- The code: the exact sum of two signed words of w bits, each as one of 32 bits.
module _ (w a b : ℕ) (e : 2 ^ w ≡ 2 ^ (w - 1) + 2 ^ (w - 1)) (f : 2 ^ w < 2 ^ 31) (ha : a < 2 ^ w) (hb : b < 2 ^ w) where
  both : Difference (signed w a +ℤ signed w b) ((a + 2 ^ (w - 1)) % 2 ^ w + (b + 2 ^ (w - 1)) % 2 ^ w) (2 ^ (w - 1) + 2 ^ (w - 1))
  both = sum-difference (is-difference _ (2 ^ (w - 1)) (bias w a e ha)) (is-difference _ (2 ^ (w - 1)) (bias w b e hb))

  both_small : mag (signed w a +ℤ signed w b) < 2 ^ 31
  both_small =
      omega
      (arith, e, f, mag-small 0 both (omega (arith, e, mod-lt (a + 2 ^ (w - 1)) (pow_pos w), mod-lt (b + 2 ^ (w - 1)) (pow_pos w))) (omega (arith, pow_pos (w - 1))))

  pub exact-code : {x y r : ℕ} → x ≡ extended w 32 a → y ≡ extended w 32 b → r ≡ (x + y) % 2 ^ 32 → signed 32 r ≡ signed w a +ℤ signed w b
  unfolding extended
  exact-code p q h = rw (h, p, q, ← (low-add 32 (signed w a) (signed w b))) (signed_low 32 (signed w a +ℤ signed w b) refl both_small)

-- Whether a signed word of 32 bits leaves the range of one of w bits, a word of m numbers and halves of h, told from what is h above it.
pub beyond-code : (m h s : ℕ) {r : ℕ} → m ≡ h + h → m ≤ 2 ^ 31 → s < 2 ^ 32 → r ≡ (s + h) % 2 ^ 32 → leb m r ≡ leb h (mag (signed 32 s))
unfolding signed
beyond-code m h s {r} d u k e = by (ltb s (2 ^ 31)) refl
  where
    by : (c : Bool) → ltb s (2 ^ 31) ≡ c → leb m r ≡ leb h (mag (cond c (pos s) (negsuc (2 ^ 32 - suc s))))
    by true q = alike _ _ (λ l. le-leb h s (omega (arith, d, u, e, ltb-true s (2 ^ 31) q, leb-true m r l))) (λ l. lt-leb h s (omega (arith, d, u, e, ltb-true s (2 ^ 31) q, leb-false m r l)))
    by false q = alike _ _ (λ l. le-leb h (2 ^ 32 - suc s) (omega (arith, d, u, e, k, ltb-false s (2 ^ 31) q, leb-true m r l))) (λ l. lt-leb h (2 ^ 32 - suc s) (omega (arith, d, u, e, k, ltb-false s (2 ^ 31) q, leb-false m r l)))

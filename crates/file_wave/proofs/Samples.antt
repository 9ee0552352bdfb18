-- A sample is its signed word times 16, exactly: both have the same top bit. Its bytes are the low 24 bits of that, the lowest first.
-- Assumes nothing.
use mathlib.Core.Path.{◌≡◌, refl, sym, ap, ◌∙◌}
use mathlib.Core.Bool.{Bool, true, false, cond}
use mathlib.Core.List.{[], ◌∷◌, ◌++◌}
use Prim.Native.Nat.{ℕ, suc, ◌*◌, ◌-◌, ◌/◌, ◌%◌, ◌^◌, ◌<◌}
use native.Mathlib.Omega.{arith}
use borrow.Author.Tests.{lt-ltb, le-ltb, ltb-true, ltb-false}
use lib.Dec.{ltb}
use lib.IntN.{pos, negsuc, neg_ℤ, ◌*ℤ◌}
use Rattle.base_words.specs.Words.{low_bits, signed}
use Rattle.base_words.proofs.Residues.{low_signed}
use Rattle.file_wave.specs.WaveFormat.{little_endian, sample, frame}

pub sample-exact : (w : ℕ) → w < 2 ^ 20 → signed 24 (16 * w) ≡ pos 16 *ℤ signed 20 w
unfolding signed
sample-exact w h = go (ltb w (2 ^ 19)) refl
  where
    negated : negsuc (2 ^ 24 - suc (16 * w)) ≡ neg_ℤ (pos (16 * suc (2 ^ 20 - suc w)))
    negated =
        let e : suc (2 ^ 24 - suc (16 * w)) ≡ 16 * suc (2 ^ 20 - suc w) = omega arith in
        ap (λ (i : ℕ). neg_ℤ (pos i)) e

    go : (b : Bool) → ltb w (2 ^ 19) ≡ b
        → cond (ltb (16 * w) (2 ^ 23)) (pos (16 * w)) (negsuc (2 ^ 24 - suc (16 * w))) ≡ pos 16 *ℤ cond b (pos w) (negsuc (2 ^ 20 - suc w))
    go true e = rw (lt-ltb (16 * w) (2 ^ 23) (omega (arith, ltb-true w (2 ^ 19) e))) refl
    go false e = rw (le-ltb (16 * w) (2 ^ 23) (omega (arith, ltb-false w (2 ^ 19) e))) negated

-- The low 24 bits of the signed word times 16 are the word times 16.
low-24 : (w : ℕ) → w < 2 ^ 20 → low_bits 24 (pos 16 *ℤ signed 20 w) ≡ 16 * w
low-24 w h = ap (low_bits 24) (sym (sample-exact w h)) ∙ low_signed 24 (16 * w) (omega arith)

three-bytes : (x : ℕ) → x < 2 ^ 24 → little_endian 3 x ≡ x % 2 ^ 8 ∷ x / 2 ^ 8 % 2 ^ 8 ∷ x / 2 ^ 16 ∷ []
unfolding little_endian
three-bytes x h =
    let third : x / 2 ^ 8 / 2 ^ 8 % 2 ^ 8 ≡ x / 2 ^ 16 = omega arith in
    rw third refl

pub sample-bytes : (w z : ℕ) → w < 2 ^ 20 → z ≡ low_bits 24 (pos 16 *ℤ signed 20 w) → sample w ≡ z % 2 ^ 8 ∷ z / 2 ^ 8 % 2 ^ 8 ∷ z / 2 ^ 16 ∷ []
unfolding sample
sample-bytes w z h e = rw (e, low-24 w h) (three-bytes (16 * w) (omega arith))

-- A frame is the sample of the left and that of the right.
pub frame-samples : (left right : ℕ) → frame left right ≡ sample left ++ sample right
unfolding frame
frame-samples left right = refl

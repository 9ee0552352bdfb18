-- A word by sign and magnitude, over its width; and the index of a cosine, of K as a signed number.
-- Assumes nothing.
use mathlib.Core.Path.{◌≡◌, refl, ap, ◌∙◌}
use mathlib.Core.Bool.{Bool, true, false, cond}
use Prim.Native.Nat.{ℕ, suc, ◌+◌, ◌-◌, ◌*◌, ◌%◌, ◌^◌, ◌<◌, ◌≤◌}
use native.Mathlib.Omega.{arith}
use lib.Dec.{ltb}
use lib.IntN.{pos, negsuc, neg_ℤ, ◌+ℤ◌}
use borrow.Author.Tests.{lt-ltb, le-ltb}
use Rattle.base_words.specs.Words.{low_bits, signed}
use Rattle.base_words.proofs.Residues.{low-add}
use Rattle.generator_old_waves.specs.OldWaves.{cosine_index}

-- A word of b bits is itself where its top bit is 0, and else minus what it lacks of 2^b.
pub word_low : (b k : ℕ) → k < 2 ^ (b - 1) → pos k ≡ signed b k
unfolding signed
word_low b k l = rw (lt-ltb k (2 ^ (b - 1)) l)

pub word-high : (b k : ℕ) → 2 ^ (b - 1) ≤ k → k < 2 ^ b → neg_ℤ (pos (2 ^ b - k)) ≡ signed b k
unfolding signed
word-high b k l h = rw (le-ltb k (2 ^ (b - 1)) l) (ap (λ (x : ℕ). neg_ℤ (pos x)) whole)
  where
    whole : 2 ^ b - k ≡ suc (2 ^ b - suc k)
    whole = omega (arith, h)

-- Twice a signed K, modulo 8,192.
twice : (k : ℕ) → k < 2 ^ 12 → (low_bits 13 (signed 12 k) + low_bits 13 (signed 12 k)) % 8192 ≡ 2 * k % 8192
unfolding signed low_bits
twice k h = go (ltb k 2048) refl
  where
    go : (c : Bool) → ltb k 2048 ≡ c →
        (low_bits 13 (cond c (pos k) (negsuc (4096 - suc k))) + low_bits 13 (cond c (pos k) (negsuc (4096 - suc k)))) % 8192 ≡ 2 * k % 8192
    go true e = omega arith
    go false e = ap (λ (x : ℕ). (x + x) % 8192) above ∙ around
      where
        above : 8192 - 1 - (4096 - suc k) % 8192 ≡ 4096 + k
        above = omega (arith, h)

        around : (4096 + k + (4096 + k)) % 8192 ≡ 2 * k % 8192
        around = omega arith

-- The index of a cosine is 2K + 2,048 modulo 8,192 for a signed K too.
pub index-signed : (k : ℕ) → k < 2 ^ 12 → low_bits 13 (signed 12 k +ℤ signed 12 k +ℤ pos 2048) ≡ cosine_index k
unfolding low_bits
index-signed k h =
    low-add 13 (signed 12 k +ℤ signed 12 k) (pos 2048)
    ∙ ap (λ (x : ℕ). (x + 2048 % 8192) % 8192) (low-add 13 (signed 12 k) (signed 12 k) ∙ twice k h)
    ∙ reduced
  where
    reduced : (2 * k % 8192 + 2048 % 8192) % 8192 ≡ cosine_index k
    reduced = omega arith

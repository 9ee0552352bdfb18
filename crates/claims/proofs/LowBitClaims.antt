-- The claims of low bits: an integer's low bits don't change by a multiple of 2^w, and the laws of sums at any width.
-- Assumes nothing.
use mathlib.Core.Path.{◌≡◌, refl, sym, ap, ◌∙◌}
use Prim.Native.Nat.{ℕ, suc, ◌+◌, ◌*◌, ◌%◌, ◌^◌, ◌≤◌, ◌<◌}
use native.Mathlib.Nat.{zero-add, add-zero, zero-mod, mod-eq_of_lt, add-mul-mod_self_right}
use lib.IntN.{ℤ, pos, negsuc, neg_ℤ, ◌+ℤ◌, ◌*ℤ◌}
use Rattle.base_words.specs.Words.{low_bits, signed, sum, extended, sum_into, exact_sum}
use Rattle.base_words.proofs.Differences.{down, neg-up, neg-down}
use Rattle.base_words.proofs.Residues.{low-is, low-add, low_signed, sum_is, sum-code, sum_into-is, into-code}
use Rattle.claims.specs.LowBitClaims.{LowBitClaims}

-- A multiple of 2^w has no low bits.
whole-mod : (w x : ℕ) → x * 2 ^ w % 2 ^ w ≡ 0 % 2 ^ w
whole-mod w x = ap (λ (n : ℕ). n % 2 ^ w) (sym (zero-add (x * 2 ^ w))) ∙ add-mul-mod_self_right 0 x (2 ^ w)

no-low-bits : (w : ℕ) (k : ℤ) → low_bits w (k *ℤ pos (2 ^ w)) ≡ 0
no-low-bits w (pos x) = low-is w (pos (x * 2 ^ w)) 0 (sym (whole-mod w x)) ∙ zero-mod (2 ^ w)
no-low-bits w (negsuc x) =
    let n = suc x * 2 ^ w in
    low-is w (neg_ℤ (pos n)) 0
    (ap (λ (i : ℕ). i % 2 ^ w) (zero-add (down (neg_ℤ (pos n))) ∙ neg-down n) ∙ whole-mod w (suc x) ∙ ap (λ (i : ℕ). i % 2 ^ w) (sym (neg-up n)))
    ∙ zero-mod (2 ^ w)

low-number : (w n : ℕ) → n < 2 ^ w → low_bits w (pos n) ≡ n
unfolding low_bits
low-number w n h = mod-eq_of_lt h

low-bits : (w n : ℕ) (k : ℤ) → n < 2 ^ w → low_bits w (pos n +ℤ k *ℤ pos (2 ^ w)) ≡ n
low-bits w n k h = low-add w (pos n) (k *ℤ pos (2 ^ w)) ∙ rw (low-number w n h, no-low-bits w k, add-zero n) (mod-eq_of_lt h)

-- The sums by their definitions.
sum-reduced : (w a b : ℕ) → a < 2 ^ w → b < 2 ^ w → (a + b) % 2 ^ w ≡ low_bits w (signed w a +ℤ signed w b)
unfolding sum
sum-reduced w a b h k = sym (sum_is w a b h k)

sum-wrapped : (w a b : ℕ) → w ≤ 32 → a < 2 ^ w → b < 2 ^ w → (a + b) % 2 ^ 32 % 2 ^ w ≡ low_bits w (signed w a +ℤ signed w b)
unfolding sum
sum-wrapped w a b l h k = sum-code w a b l h k refl

into-unsigned : (u w a b : ℕ) → u ≤ 32 → (a + extended w 32 b) % 2 ^ 32 % 2 ^ u ≡ low_bits u (pos a +ℤ signed w b)
unfolding exact_sum
into-unsigned u w a b l = into-code u w a b l refl refl

into-signed : (u w a b : ℕ) → u ≤ 32 → a < 2 ^ u → (a + extended w 32 b) % 2 ^ 32 % 2 ^ u ≡ low_bits u (signed u a +ℤ signed w b)
unfolding sum_into exact_sum
into-signed u w a b l h = into-code u w a b l refl refl ∙ sym (sum_into-is u w a b h)

pub low-bit-claims : LowBitClaims
low-bit-claims =
    record {
      low-bits = low-bits;
      low_signed = low_signed;
      sum-reduced = sum-reduced;
      sum-wrapped = sum-wrapped;
      into-signed = into-signed;
      into-unsigned = into-unsigned;
    }

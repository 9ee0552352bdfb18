-- Q and V are words of 12 bits; a wave's rounded product, by sign and magnitude.
-- Assumes nothing.
use mathlib.Core.Path.{◌≡◌, refl}
use mathlib.Core.Bool.{Bool, true, false, cond}
use Prim.Native.Nat.{ℕ, zero, suc, ◌+◌, ◌*◌, ◌/◌, ◌^◌, ◌<◌, ◌≤◌}
use native.Mathlib.Nat.{mul-le-mul, zero-mul}
use native.Mathlib.Omega.{arith}
use lib.Dec.{eqb, leb}
use lib.IntN.{pos, neg_ℤ}
use Rattle.base_words.specs.Words.{value_of}
use Rattle.base_words.proofs.Residues.{either-low, low-lt}
use Rattle.generator_exponential.specs.Exponential.{table_size, exponent_of}
use Rattle.generator_exponential.proofs.LargestEntries.{exponential-low}
use Rattle.generator_envelope.specs.Envelope.{q_of, level, rounded, enveloped}

pub q-low : (mode gq : ℕ) → gq < 2 ^ 24 → q_of mode gq < 2 ^ 12
unfolding q_of
q-low mode gq h = either-low (leb 2 mode) (exponential-low table_size (exponent_of gq)) (omega arith)

pub level-low : (mode gl gq : ℕ) → level mode gl gq < 2 ^ 12
unfolding level
level-low mode gl gq = low-lt 12 _

-- Two words of 12 bits have a product of 24 bits.
pub product-fits : {w v : ℕ} → w < 2 ^ 12 → v < 2 ^ 12 → w * v ≤ 16769025
product-fits {w} {v} h k = mul-le-mul {n₁ = w} {m₁ = v} {n₂ = 4095} {m₂ = 4095} (omega arith) (omega arith)

-- A magnitude is rounded before it is signed.
pub signed-last : (s w v : ℕ) →
    value_of (record { sign = s; magnitude = rounded w v }) ≡ enveloped (value_of (record { sign = s; magnitude = w })) v
unfolding value_of enveloped rounded
signed-last s w v = by_sign (eqb s 0) w
  where
    by_sign : (b : Bool) (w : ℕ) →
        cond b (pos ((w * v + 32) / 64)) (neg_ℤ (pos ((w * v + 32) / 64))) ≡ enveloped (cond b (pos w) (neg_ℤ (pos w))) v
    by_sign true w = refl
    by_sign false zero = simp zero-mul
    by_sign false (suc w) = refl

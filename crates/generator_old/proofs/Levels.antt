-- Q and V by the code: Q is the 1978 text's of GQ without its low 12 bits.
-- Assumes nothing.
use mathlib.Core.Path.{◌≡◌}
use Prim.Native.Nat.{ℕ, ◌*◌, ◌/◌, ◌^◌, ◌<◌}
use native.Mathlib.Omega.{arith}
use Rattle.base_words.proofs.Residues.{low-lt}
use Rattle.generator_exponential.specs.Exponential.{exponent_of}
use Rattle.generator_exponential.proofs.Sizes.{older-exponential}
use Rattle.generator_envelope.specs.Envelope.{h_of, q_of}
use Rattle.generator_old.specs.OldGenerator.{old_q, old_level}

-- The exponential of 12 bits stands at every fourth place, and H doesn't see the low 12 bits.
pub q-is : (mode gq : ℕ) → q_of mode (gq / 4096 * 4096) ≡ old_q mode gq
unfolding q_of old_q
q-is mode gq = rw (fourth, same, older-exponential (h_of gq))
  where
    fourth : exponent_of (gq / 4096 * 4096) ≡ 4 * h_of gq
    fourth = omega arith

    same : h_of (gq / 4096 * 4096) ≡ h_of gq
    same = omega arith

pub old-level-low : (mode gl gq : ℕ) → old_level mode gl gq < 2 ^ 12
unfolding old_level
old-level-low mode gl gq = low-lt 12 _

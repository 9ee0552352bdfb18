-- A generator whose wave is not 0 in any oscillator mode: each mode's wave is computed.
-- Assumes nothing.
use mathlib.Core.Path.{◌≡◌, refl, subst⁻¹}
use mathlib.Core.Bool.{Bool, true, false, cond}
use Prim.Native.Nat.{ℕ, ◌/◌, ◌^◌, ◌<◌}
use borrow.Author.Tests.{eqb-true}
use lib.Dec.{eqb, lit<}
use lib.IntN.{ℤ}
use Rattle.base_lists.proofs.Choices.{of-cond}
use Rattle.base_words.specs.Words.{low_bits, signed}
use Rattle.generator_sine.specs.Sine.{first_three, polynomial, angle, entry, index_of, negative, magnitude}
use Rattle.generator_oscillator.specs.Oscillator.{sawtooth, square, pulse, sine_wave, sine_at, multiple, ratio, sum_of_cosines, wave_of}
use Rattle.generator_envelope.specs.Envelope.{rounded, enveloped}
use Rattle.generator.specs.declared.Generator.{Generator}
use Rattle.generator.specs.Generator.{oscillator_mode, j_of, k_of, left_range, w_of, v_of, p_of}

-- P is not 0 where V is 64.
Heard : ℤ → Type 0
Heard w = 0 < low_bits 20 (enveloped w 64)

-- The wave where K is 1, or -4,096 where it comes from J, GN 1, GM 0, and a sum left its range.
wave_at : ℕ → ℤ
wave_at mode = wave_of mode (cond (eqb mode 0b1000) 524288 128 / 2 ^ 7) 1 0 true

heard : (mode : ℕ) → Heard (wave_at mode)
unfolding Heard wave_at wave_of sawtooth square pulse sum_of_cosines ratio multiple sine_at sine_wave signed low_bits enveloped rounded magnitude negative index_of entry angle polynomial first_three
heard mode = by (eqb mode 0b1000) refl
  where
    by : (b : Bool) → eqb mode 0b1000 ≡ b → Heard (wave_of mode (cond b 524288 128 / 2 ^ 7) 1 0 true)
    by true e = subst⁻¹ (λ (m : ℕ). Heard (wave_of m (524288 / 2 ^ 7) 1 0 true)) (eqb-true mode 0b1000 e) (lit< tt)
    by false e =
        of-cond Heard (eqb mode 0b0001) (lit< tt)
        (of-cond Heard (eqb mode 0b0010) (lit< tt)
        (of-cond Heard (eqb mode 0b0011) (lit< tt)
        (of-cond Heard (eqb mode 0b0100) (lit< tt)
        (lit< tt))))

pub heard-in-every-mode : (g : Generator) (f : ℕ) → j_of g f ≡ 524288 → g.gk ≡ 128 → g.gn ≡ 1 → g.gm ≡ 0 → left_range g f ≡ true → v_of g ≡ 64 → 0 < p_of g f
unfolding Heard wave_at p_of w_of k_of
heard-in-every-mode g f is-j is-k is-n is_m left is-v = rw (is-v, left, is-j, is-k, is-n, is_m) (heard (oscillator_mode g))

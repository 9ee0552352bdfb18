-- A generator whose wave is not 0 in any oscillator mode: each mode's wave is computed.
-- Assumes nothing.
use mathlib.Core.Path.{◌≡◌, refl, subst⁻¹}
use mathlib.Core.Bool.{Bool, true, false, cond}
use Prim.Native.Nat.{ℕ, ◌/◌, ◌^◌, ◌<◌}
use borrow.Author.Tests.{eqb-true}
use lib.Dec.{eqb, lit<}
use lib.IntN.{ℤ}
use Rattle.base_lists.proofs.Choices.{of-cond}
use Rattle.base_words.specs.Words.{low_bits, signed}
use Rattle.generator_sine.specs.Sine.{first_three, polynomial, angle, entry, index_of, negative, magnitude}
use Rattle.generator_oscillator.specs.Oscillator.{square, pulse, sine_wave}
use Rattle.generator_old_waves.specs.OldWaves.{cosine, old_wave}
use Rattle.generator_envelope.specs.Envelope.{rounded, enveloped}
use Rattle.generator.specs.declared.Generator.{Generator}
use Rattle.generator.specs.Generator.{j_of, left_range}
use Rattle.layout_old_modes.specs.OldModes.{old_oscillator}
use Rattle.generator_old.specs.OldGenerator.{switched, e_of, old_k, old_w, old_v, old_p}

-- P is not 0 where V is 64.
Heard : ℤ → Type 0
Heard w = 0 < low_bits 20 (enveloped w 64)

-- The wave where K is 1, or -2,048 where it comes from J, GM 0, and a sum left its range.
wave_at : ℕ → ℤ
wave_at mode = old_wave mode (cond (eqb mode 0b101) 524288 256 / 2 ^ 8) 0 true

heard : (mode : ℕ) → Heard (wave_at mode)
unfolding Heard wave_at old_wave square pulse cosine sine_wave signed low_bits enveloped rounded magnitude negative index_of entry angle polynomial first_three
heard mode = by (eqb mode 0b101) refl
  where
    by : (b : Bool) → eqb mode 0b101 ≡ b → Heard (old_wave mode (cond b 524288 256 / 2 ^ 8) 0 true)
    by true e = subst⁻¹ (λ (m : ℕ). Heard (old_wave m (524288 / 2 ^ 8) 0 true)) (eqb-true mode 0b101 e) (lit< tt)
    by false e =
        of-cond Heard (eqb mode 0b001) (lit< tt)
        (of-cond Heard (eqb mode 0b010) (lit< tt)
        (of-cond Heard (eqb mode 0b011) (lit< tt)
        (lit< tt)))

pub old-heard : (g : Generator) (f : ℕ) → j_of g f ≡ 524288 → g.gk ≡ 256 → g.gm ≡ 0 → left_range (switched g) f ≡ true → old_v g ≡ 64 → 0 < old_p g f
unfolding Heard wave_at old_p old_w old_k e_of
old-heard g f is-j is-k is_m left is-v = rw (is-v, left, is-j, is-k, is_m) (heard (old_oscillator g.gmode))

-- P of the generators of the 1978 text in the machine in which one of them sounds.
-- Assumes nothing.
use mathlib.Core.Path.{◌≡◌, ◌∙◌}
use mathlib.Core.Logic.{◌≢◌}
use mathlib.Core.Bool.{Bool, true, false, cond}
use mathlib.Core.List.{[], ◌∷◌}
use Prim.Native.Nat.{ℕ, ◌+◌, ◌/◌, ◌%◌, ◌^◌, ◌<◌}
use native.Mathlib.Omega.{arith}
use borrow.Author.Tests.{eqb-true, eq-eqb, ne_eqb}
use lib.Dec.{eqb}
use lib.ListN.{get_or}
use Rattle.base_lists.proofs.Tests.{below}
use Rattle.base_words.specs.Words.{low_bits}
use Rattle.layout.specs.Machine.{Machine, gmode_at}
use Rattle.layout_texts.specs.declared.Text.TheVariants.{Of1978}
use Rattle.generator_exponential.specs.Exponential.{bound, within, greatest, entry as exponential_entry, exponential}
use Rattle.generator_envelope.specs.Envelope.{q_of, level}
use Rattle.generator.specs.Generator.{left_range, w_of, v_of, p_of}
use Rattle.generator.proofs.Sounding.{heard-in-every-mode}
use Rattle.pass_model.specs.Generators.{turn1978, generators_of}
use Rattle.pass_laws.specs.Good.{Good}
use Rattle.parts_model.specs.Contents.{sounding_level, sounding_contents}
use Rattle.equal_endings.specs.AsCoded.{p_at}
use Rattle.equal_contents.proofs.Sounding.{nothing, unit, input, SoundingAt, sounding-at}

-- V by the envelope mode where GQ is 0.
levels : (e : ℕ) → e < 4 → (sounds : Bool) → level e ((get_or (0 ∷ 0 ∷ 4093 ∷ 3 ∷ []) e 0 + cond sounds 64 0) % 2 ^ 12) 0 ≡ cond sounds 64 0
unfolding level q_of low_bits exponential exponential_entry within greatest bound
levels e h true = eqb-true _ _ (below (λ (e : ℕ). eqb (level e ((get_or (0 ∷ 0 ∷ 4093 ∷ 3 ∷ []) e 0 + 64) % 2 ^ 12) 0) 64) 4 tt e h)
levels e h false = eqb-true _ _ (below (λ (e : ℕ). eqb (level e ((get_or (0 ∷ 0 ∷ 4093 ∷ 3 ∷ []) e 0 + 0) % 2 ^ 12) 0) 0) 4 tt e h)

module _ (m : Machine) (good : Good Of1978 m) (s g : ℕ) (h : g < 256) where
  at : SoundingAt Of1978 m good s g
  at = sounding-at Of1978 m good s g h

  v-is : v_of (unit Of1978 m good s g) ≡ cond (eqb g s) 64 0
  unfolding v_of sounding_level
  v-is = rw (at.gmode, at.gl, at.gq) (levels (gmode_at m g / 2 ^ 4 % 2 ^ 2) (omega arith) (eqb g s))

  -- P of a silent one is 0, and P of the sounding one is not.
  pub silent-output : g ≢ s → p_at (generators_of Of1978) (sounding_contents Of1978 m s) g ≡ 0
  unfolding turn1978 p_of
  silent-output n = rw (v-is, ne_eqb g s n) (nothing (w_of (unit Of1978 m good s g) (input Of1978 m good s g)))

  left : left_range (unit Of1978 m good s g) (input Of1978 m good s g) ≡ true
  unfolding left_range
  left = rw at.left

  pub sounding-output : g ≡ s → 0 < p_at (generators_of Of1978) (sounding_contents Of1978 m s) g
  unfolding turn1978
  sounding-output e = heard-in-every-mode (unit Of1978 m good s g) (input Of1978 m good s g) at.j at.gk at.gn at.gm left (v-is ∙ rw (eq-eqb g s e))

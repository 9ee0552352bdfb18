-- P of the generators of the older text in the machine in which one of them sounds.
-- Assumes nothing.
use mathlib.Core.Path.{◌≡◌, ◌∙◌}
use mathlib.Core.Logic.{◌≢◌}
use mathlib.Core.Bool.{Bool, true, false, cond}
use mathlib.Core.List.{[], ◌∷◌}
use Prim.Native.Nat.{ℕ, ◌+◌, ◌%◌, ◌^◌, ◌<◌}
use native.Mathlib.Omega.{arith}
use borrow.Author.Tests.{eqb-true, eq-eqb, ne_eqb}
use lib.Dec.{eqb}
use lib.ListN.{get_or}
use Rattle.base_lists.proofs.Tests.{below}
use Rattle.base_words.specs.Words.{low_bits}
use Rattle.layout.specs.Machine.{Machine, gmode_at}
use Rattle.layout_texts.specs.declared.Text.TheVariants.{Old}
use Rattle.generator_exponential.specs.Exponential.{bound, within, greatest, entry as exponential_entry, exponential}
use Rattle.layout_old_modes.specs.OldModes.{old_envelope}
use Rattle.generator_old.specs.OldGenerator.{old_q, old_level, old_v, old_w, old_p}
use Rattle.generator_old.proofs.Switched.{left-switched}
use Rattle.generator_old.proofs.Sounding.{old-heard}
use Rattle.pass_model.specs.Generators.{turn_old, generators_of}
use Rattle.pass_laws.specs.Good.{Good}
use Rattle.parts_model.specs.Contents.{sounding_level, sounding_contents}
use Rattle.equal_endings.specs.AsCoded.{p_at}
use Rattle.equal_contents.proofs.Sounding.{nothing, unit, input, SoundingAt, sounding-at}

-- V by the envelope mode where GQ is 0.
levels : (e : ℕ) → e < 4 → (sounds : Bool) → old_level e ((get_or (0 ∷ 0 ∷ 3 ∷ 4093 ∷ []) e 0 + cond sounds 64 0) % 2 ^ 12) 0 ≡ cond sounds 64 0
unfolding old_level old_q low_bits exponential exponential_entry within greatest bound
levels e h true = eqb-true _ _ (below (λ (e : ℕ). eqb (old_level e ((get_or (0 ∷ 0 ∷ 3 ∷ 4093 ∷ []) e 0 + 64) % 2 ^ 12) 0) 64) 4 tt e h)
levels e h false = eqb-true _ _ (below (λ (e : ℕ). eqb (old_level e ((get_or (0 ∷ 0 ∷ 3 ∷ 4093 ∷ []) e 0 + 0) % 2 ^ 12) 0) 0) 4 tt e h)

module _ (m : Machine) (good : Good Old m) (s g : ℕ) (h : g < 256) where
  at : SoundingAt Old m good s g
  at = sounding-at Old m good s g h

  v-is : old_v (unit Old m good s g) ≡ cond (eqb g s) 64 0
  unfolding old_v sounding_level
  v-is = rw (at.gmode, at.gl, at.gq) (levels (old_envelope (gmode_at m g)) (omega arith) (eqb g s))

  -- P of a silent one is 0, and P of the sounding one is not.
  pub silent-output : g ≢ s → p_at (generators_of Old) (sounding_contents Old m s) g ≡ 0
  unfolding turn_old old_p
  silent-output n = rw (v-is, ne_eqb g s n) (nothing (old_w (unit Old m good s g) (input Old m good s g)))

  pub sounding-output : g ≡ s → 0 < p_at (generators_of Old) (sounding_contents Old m s) g
  unfolding turn_old
  sounding-output e =
      old-heard (unit Old m good s g) (input Old m good s g) at.j at.gk at.gm (left-switched (unit Old m good s g) (input Old m good s g) ∙ rw at.left)
      (v-is ∙ rw (eq-eqb g s e))

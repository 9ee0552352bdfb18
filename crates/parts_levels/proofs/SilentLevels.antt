-- GL by the branches that the code takes: the level at which a generator is silent, and 64 more where it is to sound.
-- Assumes nothing.
use mathlib.Core.Path.{◌≡◌, sym}
use mathlib.Core.Logic.{◌≢◌}
use mathlib.Core.List.{[], ◌∷◌}
use Prim.Native.Nat.{ℕ, ◌+◌, ◌/◌, ◌%◌, ◌^◌, ◌<◌}
use native.Mathlib.Omega.{arith}
use native.Mathlib.Nat.{add-zero, mod-eq_of_lt}
use borrow.Author.Tests.{ltb-true, eq-eqb, ne_eqb}
use lib.Dec.{ltb}
use lib.ListN.{get_or}
use Rattle.base_lists.proofs.Tests.{below}
use Rattle.layout.specs.Machine.{Machine, gmode_at}
use Rattle.layout.specs.Widths.{gl_bits}
use Rattle.layout_old_modes.specs.OldModes.{old_envelope}
use Rattle.layout_texts.specs.declared.Text.{Text}
use Rattle.layout_texts.specs.declared.Text.TheVariants.{Of1978, Old}
use Rattle.parts_model.specs.Contents.{silent_level, sounding_level}

-- It is a word of 12 bits.
pub level-low : (text : Text) (gmode : ℕ) → silent_level text gmode < 2 ^ gl_bits
level-low Of1978 gmode = ltb-true _ _ (below (λ (e : ℕ). ltb (get_or (0 ∷ 0 ∷ 4093 ∷ 3 ∷ []) e 0) (2 ^ gl_bits)) 4 tt (gmode / 2 ^ 4 % 2 ^ 2) (omega arith))
level-low Old gmode = ltb-true _ _ (below (λ (e : ℕ). ltb (get_or (0 ∷ 0 ∷ 3 ∷ 4093 ∷ []) e 0) (2 ^ gl_bits)) 4 tt (old_envelope gmode) (omega arith))

module _ (text : Text) (m : Machine) (s g : ℕ) {silent : ℕ} (is : silent ≡ silent_level text (gmode_at m g)) where
  pub sounds-here : g ≡ s → (silent + 64) % 2 ^ gl_bits ≡ sounding_level text m s g
  unfolding sounding_level
  sounds-here e = rw (is, eq-eqb g s e)

  pub silent-here : silent < 2 ^ gl_bits → g ≢ s → silent ≡ sounding_level text m s g
  unfolding sounding_level
  silent-here low h = rw (ne_eqb g s h, ← is, add-zero silent) (sym (mod-eq_of_lt low))

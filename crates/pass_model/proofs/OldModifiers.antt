-- The modifiers of the older text invoke no delay unit: delay memory and every word past the modifiers stay.
-- Assumes nothing.
use mathlib.Core.Path.{◌≡◌, refl, ◌∙◌, ap}
use mathlib.Core.List.{List}
use Prim.Native.Nat.{ℕ, zero, suc, ◌+◌, ◌*◌, ◌≤◌}
use native.Mathlib.Omega.{arith}
use lib.ListN.{get_or}
use Rattle.layout.specs.Layout.{modifier_at}
use Rattle.layout.specs.Machine.{Machine, Sums}
use Rattle.layout_texts.specs.declared.Text.TheVariants.{Old}
use Rattle.pass_sums.proofs.Blocks.{get_d-outside, outside-after}
use Rattle.modifier.specs.declared.Modifier.{Modifier}
use Rattle.modifier.specs.Modifier.{stored}
use Rattle.pass_model.specs.Modifiers.{Held, delayed, modify, modified, modified_by}
use Rattle.pass_model.proofs.Registers.{registers, four, put_is}

-- The registers of modifier n are written back below.
put-below : (words : Machine) (n : ℕ) (u : Modifier) (i : ℕ) → modifier_at n + 8 ≤ i → get_or (stored words (modifier_at n) u) i 0 ≡ get_or words i 0
put-below words n u i h =
    ap (λ (w : List ℕ). get_or w i 0) (put_is words n u)
    ∙ get_d-outside (registers u) words (2816 + 8 * n) i 0 (rw (four u) (outside-after i (2816 + 8 * n) 4 (omega arith)))

module _ (t : ℕ) (h : Held) (s : Sums) where
  pub old-memory : (n : ℕ) → (modified_by Old t h s n).held.memory ≡ h.memory
  unfolding modified_by modified modify delayed
  old-memory zero = refl
  old-memory (suc n) = old-memory n

  pub old-words : (n i : ℕ) → modifier_at n ≤ i → get_or (modified_by Old t h s n).held.words i 0 ≡ get_or h.words i 0
  unfolding modified_by modified modify delayed
  old-words zero i b = refl
  old-words (suc n) i b = put-below (modified Old t h s n).held.words n _ i (omega arith) ∙ old-words n i (omega arith)

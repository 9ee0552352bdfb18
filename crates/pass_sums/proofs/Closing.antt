-- The end of a pass, word by word.
-- Assumes nothing.
use mathlib.Core.Path.{◌≡◌, refl, ◌∙◌}
use mathlib.Core.List.{List, []}
use Prim.Native.Nat.{ℕ, ◌+◌, ◌<◌}
use native.Mathlib.Omega.{arith}
use lib.ListN.{length, get_or, replicate}
use lib.Seq.{sets, length-sets}
use Rattle.base_lists.specs.Lists.{zeros}
use Rattle.base_lists.proofs.Zeros.{zeros-length, zeros-at}
use Rattle.layout.specs.Layout.{quadrant_at}
use Rattle.pass_sums.specs.Sums.{generator_this, generator_last, modifier_this, modifier_last, closed}
use Rattle.pass_sums.proofs.Blocks.{Outside, outside-before, get_d-outside, get_d-inside}
use Rattle.pass_sums.proofs.Memory.{Quadrants}
use Rattle.layout.specs.Machine.{Reaches}

-- The code's four writes.
pub close-code : (m₀ m₁ m₂ m₃ m₄ : List ℕ) (s : List (List ℕ)) → m₁ ≡ sets m₀ 3840 (replicate 64 0) → m₂ ≡ sets m₁ 3904 (get_or s 0 [])
    → m₃ ≡ sets m₂ 3968 (replicate 64 0) → m₄ ≡ sets m₃ 4032 (get_or s 2 []) → m₄ ≡ closed m₀ s
unfolding closed
close-code m₀ m₁ m₂ m₃ m₄ s e₁ e₂ e₃ e₄ = rw (e₄, e₃, e₂, e₁)

-- The machine keeps its length.
pub closed-length : (words : List ℕ) (s : List (List ℕ)) → length (closed words s) ≡ length words
unfolding closed
closed-length words s = simp length-sets

closed_is : (words : List ℕ) (s : List (List ℕ)) →
    closed words s ≡ sets (sets (sets (sets words 3840 (zeros 64)) 3904 (get_or s 0 [])) 3968 (zeros 64)) 4032 (get_or s 2 [])
unfolding closed zeros
closed_is words s = refl

module _ (words : List ℕ) (s : List (List ℕ)) (k : Quadrants s) where
  generators : length (get_or s 0 []) ≡ 64
  generators = k.each 0 (omega arith)

  modifiers : length (get_or s 2 []) ≡ 64
  modifiers = k.each 2 (omega arith)

  -- Each word outside sum memory is kept.
  pub closed-outside : (j : ℕ) → Outside j 3840 256 → get_or (closed words s) j 0 ≡ get_or words j 0
  closed-outside j o =
      rw (closed_is words s)
      (get_d-outside (get_or s 2 []) _ 4032 j 0 (record { out = λ n h e. o.out (192 + n) (omega (arith, modifiers)) (omega arith) })
      ∙ get_d-outside (zeros 64) _ 3968 j 0 (record { out = λ n h e. o.out (128 + n) (omega (arith, zeros-length 64)) (omega arith) })
      ∙ get_d-outside (get_or s 0 []) _ 3904 j 0 (record { out = λ n h e. o.out (64 + n) (omega (arith, generators)) (omega arith) })
      ∙ get_d-outside (zeros 64) words 3840 j 0 (record { out = λ n h e. o.out n (omega (arith, zeros-length 64)) (omega arith) }))

  module _ (r : Reaches words) (i : ℕ) (h : i < 64) where
    -- Both this-pass quadrants are cleared.
    pub closed-generator-this : get_or (closed words s) (quadrant_at generator_this + i) 0 ≡ 0
    closed-generator-this =
        rw (closed_is words s)
        (get_d-outside (get_or s 2 []) _ 4032 (3840 + i) 0 (outside-before (3840 + i) 4032 _ (omega arith))
        ∙ get_d-outside (zeros 64) _ 3968 (3840 + i) 0 (outside-before (3840 + i) 3968 _ (omega arith))
        ∙ get_d-outside (get_or s 0 []) _ 3904 (3840 + i) 0 (outside-before (3840 + i) 3904 _ (omega arith))
        ∙ get_d-inside (zeros 64) words 3840 i 0 (omega (arith, r.all, zeros-length 64)) (omega (arith, zeros-length 64))
        ∙ zeros-at 64 i h)

    pub closed-modifier-this : get_or (closed words s) (quadrant_at modifier_this + i) 0 ≡ 0
    closed-modifier-this =
        rw (closed_is words s)
        (get_d-outside (get_or s 2 []) _ 4032 (3968 + i) 0 (outside-before (3968 + i) 4032 _ (omega arith))
        ∙ get_d-inside (zeros 64) _ 3968 i 0 (simp length-sets (omega (arith, r.all, zeros-length 64))) (omega (arith, zeros-length 64))
        ∙ zeros-at 64 i h)

    -- Both last quadrants are what this pass has left.
    pub closed-generator-last : get_or (closed words s) (quadrant_at generator_last + i) 0 ≡ get_or (get_or s generator_this []) i 0
    closed-generator-last =
        rw (closed_is words s)
        (get_d-outside (get_or s 2 []) _ 4032 (3904 + i) 0 (outside-before (3904 + i) 4032 _ (omega arith))
        ∙ get_d-outside (zeros 64) _ 3968 (3904 + i) 0 (outside-before (3904 + i) 3968 _ (omega arith))
        ∙ get_d-inside (get_or s 0 []) _ 3904 i 0 (simp length-sets (omega (arith, r.all, generators))) (omega (arith, generators)))

    pub closed-modifier-last : get_or (closed words s) (quadrant_at modifier_last + i) 0 ≡ get_or (get_or s modifier_this []) i 0
    closed-modifier-last =
        rw (closed_is words s)
        (get_d-inside (get_or s 2 []) _ 4032 i 0 (simp length-sets (omega (arith, r.all, modifiers))) (omega (arith, modifiers)))

-- The words of a machine in which columns of registers are filled, and the last quadrants.
-- Assumes nothing.
use mathlib.Core.Path.{◌≡◌, refl, ◌∙◌}
use mathlib.Core.Logic.{◌≢◌}
use mathlib.Core.Bool.{Bool, true, false, cond, ◌&&◌}
use mathlib.Core.List.{List, [], ◌∷◌}
use Prim.Native.Nat.{ℕ, ◌+◌, ◌*◌, ◌≤◌, ◌<◌}
use native.Mathlib.Omega.{arith}
use borrow.Author.Tests.{ltb-true, eqb-true, eqb-false}
use lib.Dec.{eqb, ltb, lit<}
use lib.ListN.{length, get_or}
use Rattle.base_lists.proofs.Below.{and_first, and_second}
use Rattle.layout.specs.Layout.{machine_length, generator_at, quadrant_at}
use Rattle.layout.specs.Machine.{Machine}
use Rattle.base_fills.specs.Fills.{filled}
use Rattle.base_fills.proofs.Filled.{filled-length, filled-other, filled_at}
use Rattle.pass_sums.specs.Sums.{generator_last, modifier_last}
use Rattle.parts_model.specs.Contents.{Column, column, with_columns, each_word, inactive_modifiers, with_last}

-- One column is filled.
module _ (j : ℕ) (f : ℕ → ℕ) (m : Machine) (l : j < 11) where
  here : length m ≡ machine_length → (g : ℕ) → g < 256 → get_or (filled j 11 256 f m) (generator_at g + j) 0 ≡ f g
  here whole g h =
      let e : j + 11 * g ≡ generator_at g + j = omega arith in
      rw e at (filled_at j 11 256 f m g (lit< tt) h (omega arith))

  pub other : (k g : ℕ) → k < 11 → k ≢ j → get_or (filled j 11 256 f m) (generator_at g + k) 0 ≡ get_or m (generator_at g + k) 0
  other k g b apart = filled-other j 11 256 f m (generator_at g + k) (λ i h e. apart (omega arith))

  pub past : (i : ℕ) → 2816 ≤ i → get_or (filled j 11 256 f m) i 0 ≡ get_or m i 0
  past i h = filled-other j 11 256 f m i (λ k b e. omega arith)

-- Columns are registers; what is filled in register j, and what is kept where none of them is j.
abbrev pub registers : List Column → Bool
registers [] = true
registers (column j f ∷ cs) = ltb j 11 && registers cs

abbrev pub word_in : List Column → ℕ → (ℕ → ℕ) → ℕ → ℕ
word_in [] j kept = kept
word_in (column k f ∷ cs) j kept = cond (eqb j k) f (word_in cs j kept)

columns-length : (cs : List Column) (m : Machine) → length (with_columns cs m) ≡ length m
columns-length [] m = refl
columns-length (column j f ∷ cs) m = filled-length j 11 256 f (with_columns cs m) ∙ columns-length cs m

pub columns-word : (cs : List Column) (m : Machine) → registers cs ≡ true → length m ≡ machine_length → (j g : ℕ) → j < 11 → g < 256
    → get_or (with_columns cs m) (generator_at g + j) 0 ≡ word_in cs j (λ g. get_or m (generator_at g + j) 0) g
columns-word [] m r whole j g l h = refl
columns-word (column k f ∷ cs) m r whole j g l h = by (eqb j k) refl (columns-word cs m (and_second (ltb k 11) (registers cs) r) whole j g l h)
  where
    by : (b : Bool) → eqb j k ≡ b → get_or (with_columns cs m) (generator_at g + j) 0 ≡ word_in cs j (λ g. get_or m (generator_at g + j) 0) g
        → get_or (filled k 11 256 f (with_columns cs m)) (generator_at g + j) 0 ≡ cond b f (word_in cs j (λ g. get_or m (generator_at g + j) 0)) g
    by true e below = rw (eqb-true j k e) (here k f (with_columns cs m) (rw (eqb-true j k e) at l) (columns-length cs m ∙ whole) g h)
    by false e below = other k f (with_columns cs m) (ltb-true k 11 (and_first (ltb k 11) (registers cs) r)) j g l (eqb-false j k e) ∙ below

pub columns-past : (cs : List Column) (m : Machine) → registers cs ≡ true → (i : ℕ) → 2816 ≤ i → get_or (with_columns cs m) i 0 ≡ get_or m i 0
columns-past [] m r i h = refl
columns-past (column j f ∷ cs) m r i h =
    past j f (with_columns cs m) (ltb-true j 11 (and_first (ltb j 11) (registers cs) r)) i h
    ∙ columns-past cs m (and_second (ltb j 11) (registers cs) r) i h

-- The words of a quadrant are filled.
module _ (q : ℕ) (f : ℕ → ℕ) (m : Machine) (l : q < 4) where
  word-here : length m ≡ machine_length → (w : ℕ) → w < 64 → get_or (each_word q f m) (quadrant_at q + w) 0 ≡ f w
  word-here whole w h =
      let e : quadrant_at q + 1 * w ≡ quadrant_at q + w = omega arith in
      rw e at (filled_at (quadrant_at q) 1 64 f m w (lit< tt) h (omega arith))

  word-other : (p w : ℕ) → w < 64 → p ≢ q → get_or (each_word q f m) (quadrant_at p + w) 0 ≡ get_or m (quadrant_at p + w) 0
  word-other p w h apart = filled-other (quadrant_at q) 1 64 f m (quadrant_at p + w) (λ k b e. apart (omega arith))

  pub word-before : (i : ℕ) → i < 3840 → get_or (each_word q f m) i 0 ≡ get_or m i 0
  word-before i h = filled-other (quadrant_at q) 1 64 f m i (λ k b e. omega arith)

  pub word-past : (i : ℕ) → 4096 ≤ i → get_or (each_word q f m) i 0 ≡ get_or m i 0
  word-past i h = filled-other (quadrant_at q) 1 64 f m i (λ k b e. omega arith)

module _ (a b : ℕ → ℕ) (m : Machine) (whole : length (inactive_modifiers m) ≡ machine_length) (w : ℕ) (h : w < 64) where
  pub generator-last : get_or (with_last a b m) (quadrant_at generator_last + w) 0 ≡ a w
  unfolding with_last
  generator-last =
      word-other modifier_last b (each_word generator_last a (inactive_modifiers m)) (lit< tt) generator_last w h (λ e. omega arith)
      ∙ word-here generator_last a (inactive_modifiers m) (lit< tt) whole w h

  pub modifier-last : get_or (with_last a b m) (quadrant_at modifier_last + w) 0 ≡ b w
  unfolding with_last
  modifier-last =
      word-here modifier_last b (each_word generator_last a (inactive_modifiers m)) (lit< tt)
      (filled-length (quadrant_at generator_last) 1 64 a (inactive_modifiers m) ∙ whole) w h

-- What a generator's turn leaves in each word of the machine.
-- Assumes nothing.
use mathlib.Core.Path.{◌≡◌, refl, ◌∙◌}
use mathlib.Core.Logic.{◌≢◌}
use mathlib.Core.Bool.{Bool, true, false, cond}
use mathlib.Core.List.{List}
use Prim.Native.Nat.{ℕ, ◌+◌, ◌%◌, ◌^◌, ◌<◌}
use native.Mathlib.Nat.{mod-eq_of_lt}
use native.Mathlib.Omega.{arith}
use lib.ListN.{length, get_or, set, drop, length-set}
use lib.Seq.{get_or-drop, get_or-set_same, get_or-set_other}
use Rattle.layout.specs.Layout.{generator_at, dac_at, GJ, GK, GQ, GMODE}
use Rattle.generator.specs.declared.Generator.{Generator}
use Rattle.generator.specs.Generator.{Ranged, stored}
use Rattle.generator.proofs.Registers.{ranged}
use Rattle.pass_model.specs.Generators.{Contribution, generator_of, fed}

-- The words of generator g that its turn leaves alone, and all other words.
pub record Apart (i g : ℕ) : Type 0 where
  pub not-gj : i ≢ generator_at g + GJ
  pub not-gk : i ≢ generator_at g + GK
  pub not-gq : i ≢ generator_at g + GQ
  pub not-gmode : i ≢ generator_at g + GMODE

-- The words with GJ put, then GK, then GQ.
abbrev with_gj : List ℕ → ℕ → Generator → List ℕ
with_gj words g u = set words (generator_at g + GJ) u.gj

abbrev with_gk : List ℕ → ℕ → Generator → List ℕ
with_gk words g u = set (with_gj words g u) (generator_at g + GK) u.gk

abbrev with_gq : List ℕ → ℕ → Generator → List ℕ
with_gq words g u = set (with_gk words g u) (generator_at g + GQ) u.gq

module _ (words : List ℕ) (g : ℕ) (u : Generator) where
  pub put-length : length (stored words (generator_at g) u) ≡ length words
  unfolding stored
  put-length = simp length-set

  before-gmode : (i : ℕ) → i ≢ generator_at g + GMODE → get_or (stored words (generator_at g) u) i 0 ≡ get_or (with_gq words g u) i 0
  unfolding stored
  before-gmode i n = get_or-set_other (with_gq words g u) (generator_at g + GMODE) i u.gmode 0 n

  before-gq : (i : ℕ) → i ≢ generator_at g + GQ → get_or (with_gq words g u) i 0 ≡ get_or (with_gk words g u) i 0
  before-gq i n = get_or-set_other (with_gk words g u) (generator_at g + GQ) i u.gq 0 n

  before-gk : (i : ℕ) → i ≢ generator_at g + GK → get_or (with_gk words g u) i 0 ≡ get_or (with_gj words g u) i 0
  before-gk i n = get_or-set_other (with_gj words g u) (generator_at g + GK) i u.gk 0 n

  pub put-apart : (i : ℕ) → Apart i g → get_or (stored words (generator_at g) u) i 0 ≡ get_or words i 0
  put-apart i a =
      before-gmode i a.not-gmode
      ∙ before-gq i a.not-gq
      ∙ before-gk i a.not-gk
      ∙ get_or-set_other words (generator_at g + GJ) i u.gj 0 a.not-gj

  module _ (reach : generator_at g + GMODE < length words) where
    reach-gj : generator_at g + GMODE < length (with_gj words g u)
    reach-gj = rw length-set reach

    reach-gk : generator_at g + GMODE < length (with_gk words g u)
    reach-gk = rw length-set reach-gj

    reach-gq : generator_at g + GMODE < length (with_gq words g u)
    reach-gq = rw length-set reach-gk

    pub put-gmode : get_or (stored words (generator_at g) u) (generator_at g + GMODE) 0 ≡ u.gmode
    unfolding stored
    put-gmode = get_or-set_same (with_gq words g u) (generator_at g + GMODE) u.gmode 0 reach-gq

    pub put-gq : get_or (stored words (generator_at g) u) (generator_at g + GQ) 0 ≡ u.gq
    put-gq =
        before-gmode (generator_at g + GQ) (λ e. omega arith)
        ∙ get_or-set_same (with_gk words g u) (generator_at g + GQ) u.gq 0 (omega (arith, reach-gk))

    pub put-gk : get_or (stored words (generator_at g) u) (generator_at g + GK) 0 ≡ u.gk
    put-gk =
        before-gmode (generator_at g + GK) (λ e. omega arith)
        ∙ before-gq (generator_at g + GK) (λ e. omega arith)
        ∙ get_or-set_same (with_gj words g u) (generator_at g + GK) u.gk 0 (omega (arith, reach-gj))

    pub put-gj : get_or (stored words (generator_at g) u) (generator_at g + GJ) 0 ≡ u.gj
    put-gj =
        before-gmode (generator_at g + GJ) (λ e. omega arith)
        ∙ before-gq (generator_at g + GJ) (λ e. omega arith)
        ∙ before-gk (generator_at g + GJ) (λ e. omega arith)
        ∙ get_or-set_same words (generator_at g + GJ) u.gj 0 (omega arith)

-- A DAC is fed: only DAC words change.
module _ (words : List ℕ) (b : Contribution) where
  dac-by : (c : Bool) (i : ℕ) → i < dac_at 0 → get_or (cond c (set words (dac_at b.dac) b.sends) words) i 0 ≡ get_or words i 0
  dac-by true i h = get_or-set_other words (dac_at b.dac) i b.sends 0 (λ e. omega arith)
  dac-by false i h = refl

  pub dac-apart : (i : ℕ) → i < dac_at 0 → get_or (fed words b) i 0 ≡ get_or words i 0
  unfolding fed
  dac-apart i h = dac-by b.feeds i h

  length-by : (c : Bool) → length (cond c (set words (dac_at b.dac) b.sends) words) ≡ length words
  length-by true = length-set words _ b.sends
  length-by false = refl

  pub dac-length : length (fed words b) ≡ length words
  unfolding fed
  dac-length = length-by b.feeds

-- A generator is loaded within its widths.
pub generator-ranged : (words : List ℕ) (g : ℕ) → Ranged (generator_of words g)
unfolding generator_of
generator-ranged words g = ranged (drop (generator_at g) words)

-- A word that is within its width, read at that width through the part of the machine from place n.
pub at_width : (words : List ℕ) (n j w : ℕ) → get_or words (n + j) 0 < 2 ^ w → get_or (drop n words) j 0 % 2 ^ w ≡ get_or words (n + j) 0
at_width words n j w h = rw (get_or-drop n words j 0) (mod-eq_of_lt h)

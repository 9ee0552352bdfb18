-- The registers of a generator that is loaded from a valid machine are its words, and its F in a content is a word of the last quadrants.
-- Assumes nothing.
use mathlib.Core.Path.{◌≡◌, refl, ◌∙◌}
use mathlib.Core.Bool.{Bool, true, false, cond}
use mathlib.Core.List.{List, []}
use Prim.Native.Nat.{ℕ, ◌+◌, ◌/◌, ◌%◌, ◌<◌}
use native.Mathlib.Omega.{arith}
use native.Mathlib.Nat.{mod-eq_of_lt, add-zero}
use lib.Dec.{eqb, lit<}
use lib.ListN.{get_or}
use Rattle.layout.specs.Layout.{generator_at, quadrant_at, GO, GJ, GK, GN, GM, GP, GQ, GL, GSUM, GFM, GMODE}
use Rattle.layout.specs.Machine.{Machine, gmode_at, gsum_at, gfm_at}
use Rattle.layout.specs.Widths.{go_bits, gj_bits, gk_bits, gn_bits, gm_bits, gp_bits, gq_bits, gl_bits, gsum_bits, gfm_bits, gmode_bits}
use Rattle.layout_texts.specs.declared.Text.{Text}
use Rattle.machine.specs.Questions.{valid}
use Rattle.machine.proofs.ValidMachine.{valid-generator, valid-sum}
use Rattle.pass_sums.specs.Sums.{generator_last, modifier_last, word_at, f_at, sums_of}
use Rattle.pass_sums.proofs.Memory.{quadrant-word, sums-quadrant}
use Rattle.generator.specs.Generator.{loaded}
use Rattle.pass_model.specs.Generators.{generator_of}
use Rattle.pass_model.proofs.Puts.{at_width}
use Rattle.pass_laws.specs.Good.{Good}
use Rattle.parts_model.specs.Contents.{Column, with_columns, with_last}
use Rattle.equal_contents.proofs.Words.{registers, columns-past, generator-last, modifier-last}
use Rattle.equal_contents.proofs.Content.{Content, inactive-content}

pub record IsLoaded (m : Machine) (g : ℕ) : Type 0 where
  pub go : (generator_of m g).go ≡ get_or m (generator_at g) 0
  pub gj : (generator_of m g).gj ≡ get_or m (generator_at g + GJ) 0
  pub gk : (generator_of m g).gk ≡ get_or m (generator_at g + GK) 0
  pub gn : (generator_of m g).gn ≡ get_or m (generator_at g + GN) 0
  pub gm : (generator_of m g).gm ≡ get_or m (generator_at g + GM) 0
  pub gp : (generator_of m g).gp ≡ get_or m (generator_at g + GP) 0
  pub gq : (generator_of m g).gq ≡ get_or m (generator_at g + GQ) 0
  pub gl : (generator_of m g).gl ≡ get_or m (generator_at g + GL) 0
  pub gsum : (generator_of m g).gsum ≡ gsum_at m g
  pub gfm : (generator_of m g).gfm ≡ gfm_at m g
  pub gmode : (generator_of m g).gmode ≡ gmode_at m g

pub is-loaded : (text : Text) (m : Machine) → valid text m ≡ true → (g : ℕ) → g < 256 → IsLoaded m g
unfolding generator_of loaded
is-loaded text m e g h =
    let s = valid-generator text m e g h in
    record {
      go = rw (add-zero (generator_at g)) at (at_width m (generator_at g) GO go_bits (rw (add-zero (generator_at g)) s.go));
      gj = at_width m (generator_at g) GJ gj_bits s.gj;
      gk = at_width m (generator_at g) GK gk_bits s.gk;
      gn = at_width m (generator_at g) GN gn_bits s.gn;
      gm = at_width m (generator_at g) GM gm_bits s.gm;
      gp = at_width m (generator_at g) GP gp_bits s.gp;
      gq = at_width m (generator_at g) GQ gq_bits s.gq;
      gl = at_width m (generator_at g) GL gl_bits s.gl;
      gsum = at_width m (generator_at g) GSUM gsum_bits s.gsum;
      gfm = at_width m (generator_at g) GFM gfm_bits s.gfm;
      gmode = at_width m (generator_at g) GMODE gmode_bits s.gmode;
    }

-- A word of sum memory.
sum-word : (text : Text) (m : Machine) → valid text m ≡ true → (q : ℕ) → q < 4 → (w : ℕ) → w < 64 → word_at (get_or (sums_of m) q []) w ≡ get_or m (quadrant_at q + w) 0
unfolding word_at
sum-word text m e q a w b = rw (sums-quadrant m q a, quadrant-word m q w b) (mod-eq_of_lt (valid-sum text m e q w a b))

-- F by the two halves of GFM's range.
module _ (text : Text) (m : Machine) (good : Good text m) (cs : List Column) (r : registers cs ≡ true) (a b : ℕ → ℕ) (same : Content text m (with_columns cs (with_last a b m))) where
  abbrev n : Machine
  n = with_columns cs (with_last a b m)

  last_word : (w : ℕ) → w < 64 → (t : Bool) → word_at (get_or (sums_of n) (cond t generator_last modifier_last) []) w ≡ cond t (a w) (b w)
  last_word w h true =
      sum-word text n same.good.is-valid generator_last (lit< tt) w h
      ∙ columns-past cs (with_last a b m) r (quadrant_at generator_last + w) (omega arith) ∙ generator-last a b m (inactive-content text m good).good.whole w h
  last_word w h false =
      sum-word text n same.good.is-valid modifier_last (lit< tt) w h
      ∙ columns-past cs (with_last a b m) r (quadrant_at modifier_last + w) (omega arith) ∙ modifier-last a b m (inactive-content text m good).good.whole w h

  pub f-is : (g : ℕ) → g < 256 → f_at (sums_of n) (generator_of n g).gfm ≡ cond (eqb (gfm_at m g / 64) 0) (a (gfm_at m g % 64)) (b (gfm_at m g % 64))
  unfolding f_at
  f-is g h =
      rw ((is-loaded text n same.good.is-valid g h).gfm, same.kept GFM (lit< tt) refl g h) (last_word (gfm_at m g % 64) (omega arith) (eqb (gfm_at m g / 64) 0))

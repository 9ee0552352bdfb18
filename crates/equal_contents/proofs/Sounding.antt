-- The machine in which one generator sounds and all others are silent: F and the registers of each generator.
-- Assumes nothing.
use mathlib.Core.Path.{◌≡◌, refl, ◌∙◌}
use mathlib.Core.Bool.{true}
use Prim.Native.Nat.{ℕ, ◌+◌, ◌/◌, ◌^◌, ◌<◌}
use native.Mathlib.Omega.{arith}
use native.Mathlib.Nat.{mul-zero}
use borrow.Author.Tests.{lt-ltb}
use lib.Dec.{eqb, lit<}
use lib.IntN.{ℤ, nat_abs}
use lib.ListN.{get_or}
use lib.Signed.{non_neg}
use Rattle.base_lists.proofs.Choices.{of-cond}
use Rattle.base_words.specs.Words.{low_bits, signed, sum, leaves}
use Rattle.layout.specs.Layout.{generator_at, GJ, GK, GN, GM, GQ, GL, GMODE}
use Rattle.layout.specs.Machine.{Machine, gmode_at, gfm_at}
use Rattle.layout.specs.Widths.{gl_bits}
use Rattle.layout_texts.specs.declared.Text.{Text}
use Rattle.layout_texts.specs.declared.Text.TheVariants.{Of1978, Old}
use Rattle.machine.specs.Questions.{regions}
use Rattle.pass_sums.specs.Sums.{f_at, sums_of}
use Rattle.generator_envelope.specs.Envelope.{rounded, enveloped}
use Rattle.generator.specs.declared.Generator.{Generator}
use Rattle.generator.specs.Generator.{j_of}
use Rattle.pass_model.specs.Generators.{generator_of}
use Rattle.pass_laws.specs.Good.{Good}
use Rattle.parts_model.specs.Contents.{with_columns, with_last, wave_columns, sounding_level, sounding_columns, sounding_contents}
use Rattle.equal_contents.proofs.Words.{registers, word_in, columns-word}
use Rattle.equal_contents.proofs.Content.{register_test, Content, last-content, register-content}
use Rattle.equal_contents.proofs.Loaded.{is-loaded, f-is}

-- No sound where V is 0, whatever W is.
pub nothing : (w : ℤ) → low_bits 20 (enveloped w 0) ≡ 0
unfolding low_bits enveloped rounded
nothing w = rw (mul-zero (nat_abs w)) (of-cond (λ (z : ℤ). low_bits 20 z ≡ 0) (non_neg w) refl refl)

-- Step 1: the sum of 524,287 and 1 leaves its range.
step-1-sum : sum 20 (134217472 / 2 ^ 8) 1 ≡ 524288
unfolding sum signed low_bits
step-1-sum = refl

step-1-leaves : leaves 20 (134217472 / 2 ^ 8) 1 ≡ true
unfolding leaves signed
step-1-leaves = refl

-- The columns by which the texts differ.
waves-registers : (text : Text) → registers (wave_columns text) ≡ true
waves-registers Of1978 = refl
waves-registers Old = refl

waves-content : (text : Text) {m n : Machine} → Content text m n → Content text m (with_columns (wave_columns text) n)
unfolding register_test regions
waves-content Of1978 r = register-content Of1978 (register-content Of1978 r GN (λ g. 1) (lit< tt) refl (λ g h. refl)) GK (λ g. 128) (lit< tt) refl (λ g h. refl)
waves-content Old r = register-content Old r GK (λ g. 256) (lit< tt) refl (λ g h. refl)

level-fits : (text : Text) (m : Machine) (s g : ℕ) → register_test text GL (sounding_level text m s g) ≡ true
unfolding sounding_level register_test regions
level-fits text m s g = lt-ltb (sounding_level text m s g) (2 ^ gl_bits) (omega arith)

module _ (text : Text) (m : Machine) (good : Good text m) (s : ℕ) where
  abbrev ones : Machine
  ones = with_last (λ w. 1) (λ w. 1) m

  ones-content : Content text m (with_last (λ w. 1) (λ w. 1) m)
  ones-content = last-content text m good (λ w. 1) (λ w. 1) (λ w h. lit< tt) (λ w h. lit< tt)

  pub sounding-content : Content text m (sounding_contents text m s)
  unfolding sounding_contents register_test regions
  sounding-content =
      let gj = register-content text (waves-content text ones-content) GJ (λ g. 134217472) (lit< tt) refl (λ g h. refl) in
      let gm = register-content text gj GM (λ g. 0) (lit< tt) refl (λ g h. refl) in
      let gq = register-content text gm GQ (λ g. 0) (lit< tt) refl (λ g h. refl) in
      register-content text gq GL (sounding_level text m s) (lit< tt) refl (λ g h. level-fits text m s g)

  word : (j g : ℕ) → j < 11 → g < 256 → get_or (sounding_contents text m s) (generator_at g + j) 0 ≡ word_in (sounding_columns text m s) j (λ g. get_or ones (generator_at g + j) 0) g
  unfolding sounding_contents
  word = columns-word (sounding_columns text m s) ones (waves-registers text) ones-content.good.whole

  sounding-f : (g : ℕ) → g < 256 → f_at (sums_of (sounding_contents text m s)) (generator_of (sounding_contents text m s) g).gfm ≡ 1
  unfolding sounding_contents
  sounding-f g h =
      f-is text m good (sounding_columns text m s) (waves-registers text) (λ w. 1) (λ w. 1) sounding-content g h ∙ of-cond (λ (x : ℕ). x ≡ 1) (eqb (gfm_at m g / 64) 0) refl refl

  -- Generator g and its F: step 1 leaves its range; what GK and GN are depends on the text.
  module _ (g : ℕ) where
    abbrev pub unit : Generator
    unit = generator_of (sounding_contents text m s) g

    abbrev pub input : ℕ
    input = f_at (sums_of (sounding_contents text m s)) unit.gfm

    pub record SoundingAt : Type 0 where
      pub j : j_of unit input ≡ 524288
      pub left : leaves 20 (unit.gj / 2 ^ 8) input ≡ true
      pub gk : unit.gk ≡ word_in (wave_columns text) GK (λ g. get_or ones (generator_at g + GK) 0) g
      pub gn : unit.gn ≡ word_in (wave_columns text) GN (λ g. get_or ones (generator_at g + GN) 0) g
      pub gm : unit.gm ≡ 0
      pub gq : unit.gq ≡ 0
      pub gl : unit.gl ≡ sounding_level text m s g
      pub gmode : unit.gmode ≡ gmode_at m g

    pub sounding-at : g < 256 → SoundingAt
    unfolding j_of
    sounding-at h =
        let loaded = is-loaded text (sounding_contents text m s) sounding-content.good.is-valid g h in
        let gj : unit.gj ≡ 134217472 = loaded.gj ∙ word GJ g (lit< tt) h in
        record {
          j = rw (gj, sounding-f g h) step-1-sum;
          left = rw (gj, sounding-f g h) step-1-leaves;
          gk = loaded.gk ∙ word GK g (lit< tt) h;
          gn = loaded.gn ∙ word GN g (lit< tt) h;
          gm = loaded.gm ∙ word GM g (lit< tt) h;
          gq = loaded.gq ∙ word GQ g (lit< tt) h;
          gl = loaded.gl ∙ word GL g (lit< tt) h;
          gmode = loaded.gmode ∙ sounding-content.kept GMODE (lit< tt) refl g h;
        }

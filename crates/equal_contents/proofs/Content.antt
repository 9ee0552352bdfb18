-- A content of a machine: a good machine of its text in which the registers that are settings are the same and every modifier is inactive.
-- Assumes nothing.
use mathlib.Core.Path.{◌≡◌, refl, sym, ap, ◌∙◌}
use mathlib.Core.Bool.{Bool, true, false, ◌&&◌, ◌||◌, true≢false}
use Prim.Native.Nat.{ℕ, zero, suc, ◌+◌, ◌*◌, ◌/◌, ◌^◌, ◌<◌}
use native.Mathlib.Omega.{arith}
use borrow.Author.Tests.{lt-ltb}
use lib.Dec.{eqb, lit<, lit≤}
use lib.ListN.{get_or}
use Rattle.base_lists.specs.Lists.{is_one_of}
use Rattle.layout_codes.specs.BuiltCodes.{built_functions, built_function, old_built_functions, old_built_function}
use Rattle.layout.specs.Layout.{generator_at, modifier_at, quadrant_at, t_at, MMODE, GO, GN, GSUM, GFM, GMODE}
use Rattle.layout.specs.Machine.{Machine, ticks_of}
use Rattle.layout_texts.specs.Texts.{run_mode_at}
use Rattle.layout_texts.specs.declared.Text.{Text}
use Rattle.layout_texts.specs.declared.Text.TheVariants.{Of1978, Old}
use Rattle.base_fills.specs.Fills.{filled}
use Rattle.base_fills.proofs.Filled.{filled-length, filled-other, filled_at}
use Rattle.machine.specs.Questions.{good_mmode, regions, test_at, valid}
use Rattle.machine.proofs.Regions.{region, start, unit-test}
use Rattle.machine.proofs.ValidMachine.{single-below, valid-set}
use Rattle.pass_sums.specs.Sums.{generator_last, modifier_last}
use Rattle.pass_laws.specs.Good.{Good}
use Rattle.parts_model.specs.Contents.{each_word, inactive_modifiers, with_last}
use Rattle.equal_contents.proofs.Words.{other, past, word-before, word-past}

-- The registers that every content keeps: GO, GSUM, GFM and GMODE, and in the older text GN.
abbrev pub keeps_gn : Text → Bool
keeps_gn Of1978 = false
keeps_gn Old = true

abbrev pub is_kept : Text → ℕ → Bool
is_kept text j = eqb j GO || eqb j GSUM || eqb j GFM || eqb j GMODE || (eqb j GN && keeps_gn text)

-- A content n of a machine m.
pub record Content (text : Text) (m n : Machine) : Type 0 where
  pub good : Good text n
  pub inactive : (k : ℕ) → k < 128 → get_or n (modifier_at k + MMODE) 0 ≡ 0
  pub ticks : ticks_of n ≡ ticks_of m
  pub kept : (j : ℕ) → j < 11 → is_kept text j ≡ true → (g : ℕ) → g < 256 → get_or n (generator_at g + j) 0 ≡ get_or m (generator_at g + j) 0

-- Its run modes are the machine's.
pub run-kept : (text : Text) {m n : Machine} → Content text m n → (g : ℕ) → g < 256 → run_mode_at text n g ≡ run_mode_at text m g
run-kept Of1978 r g h = ap (λ (x : ℕ). x / 2 ^ 6) (r.kept GMODE (lit< tt) refl g h)
run-kept Old r g h = rw (r.kept GMODE (lit< tt) refl g h, r.kept GN (lit< tt) refl g h)

-- The test of register j of a generator.
unfoldable pub register_test : Text → ℕ → ℕ → Bool
register_test text j x = get_or (region (regions text) 0).tests j (λ y. false) x

-- MMODE 0 is inactive.
inactive-good : (text : Text) → good_mmode text 0 ≡ true
unfolding built_function built_functions old_built_function old_built_functions is_one_of
inactive-good Of1978 = refl
inactive-good Old = refl

module _ (text : Text) where
  -- Words before T that pass the tests of their places keep a machine good.
  filled-valid : (at step n : ℕ) (f : ℕ → ℕ) (m : Machine)
      → ((k : ℕ) → k < n → (at + step * k < t_at) × (test_at (regions text) (at + step * k) (f k) ≡ true)) → valid text m ≡ true → valid text (filled at step n f m) ≡ true
  unfolding filled
  filled-valid at step zero f m fits e = e
  filled-valid at step (suc n) f m fits e =
      let here = fits n (omega arith) in
      valid-set text (filled at step n f m) (filled-valid at step n f m (λ k h. fits k (omega arith)) e) (at + step * n) (f n) (single-below here.0) here.1

  filled-good : (at step n : ℕ) (f : ℕ → ℕ) (m : Machine)
      → ((k : ℕ) → k < n → (at + step * k < t_at) × (test_at (regions text) (at + step * k) (f k) ≡ true)) → Good text m → Good text (filled at step n f m)
  filled-good at step n f m fits good =
      record { whole = filled-length at step n f m ∙ good.whole; is-valid = filled-valid at step n f m fits good.is-valid }

  -- The modifiers are made inactive.
  module _ (m : Machine) (good : Good text m) where
    abbrev at : ℕ
    at = modifier_at 0 + MMODE

    mode-fits : (k : ℕ) → k < 128 → test_at (regions text) (modifier_at 0 + MMODE + 8 * k) 0 ≡ true
    unfolding regions
    mode-fits k h =
        let q : modifier_at 0 + MMODE + 8 * k ≡ start (regions text) 1 + (8 * k + MMODE) = omega arith in
        ap (λ (i : ℕ). test_at (regions text) i 0) q ∙ unit-test (regions text) 1 k MMODE 0 h (lit< tt) ∙ inactive-good text

    pub inactive-content : Content text m (inactive_modifiers m)
    unfolding inactive_modifiers
    inactive-content =
        record {
          good = filled-good at 8 128 (λ k. 0) m (λ k h. (omega arith, mode-fits k h)) good;
          inactive = λ k h.
              let e : at + 8 * k ≡ modifier_at k + MMODE = omega arith in
              rw e at (filled_at at 8 128 (λ k. 0) m k (lit< tt) h (omega (arith, good.whole)));
          ticks = filled-other at 8 128 (λ k. 0) m t_at (λ k b e. omega arith);
          kept = λ j l e g h. filled-other at 8 128 (λ k. 0) m (generator_at g + j) (λ k b e. omega arith);
        }

  -- Further, the words of a quadrant are filled, or a register that is no setting.
  module _ {m n : Machine} (r : Content text m n) where
    word_fits : (q : ℕ) (f : ℕ → ℕ) → q < 4 → (w : ℕ) → w < 64 → test_at (regions text) (quadrant_at q + 1 * w) (f w) ≡ get_or (region (regions text) 2).tests 0 (λ y. false) (f w)
    unfolding regions
    word_fits q f l w h =
        let e : quadrant_at q + 1 * w ≡ start (regions text) 2 + (1 * (64 * q + w) + 0) = omega arith in
        ap (λ (at : ℕ). test_at (regions text) at (f w)) e ∙ unit-test (regions text) 2 (64 * q + w) 0 (f w) (omega arith) (lit< tt)

    word-content : (q : ℕ) (f : ℕ → ℕ) → q < 4 → ((w : ℕ) → w < 64 → f w < 2 ^ 20) → Content text m (each_word q f n)
    unfolding regions
    word-content q f l low =
        record {
          good = filled-good (quadrant_at q) 1 64 f n (λ w h. (omega arith, word_fits q f l w h ∙ lt-ltb (f w) (2 ^ 20) (low w h))) r.good;
          inactive = λ k h. word-before q f n l (modifier_at k + MMODE) (omega arith) ∙ r.inactive k h;
          ticks = word-past q f n l t_at (lit≤ tt) ∙ r.ticks;
          kept = λ j i e g h. word-before q f n l (generator_at g + j) (omega arith) ∙ r.kept j i e g h;
        }

    pub register-content : (j : ℕ) (f : ℕ → ℕ) → j < 11 → is_kept text j ≡ false → ((g : ℕ) → g < 256 → register_test text j (f g) ≡ true)
        → Content text m (filled j 11 256 f n)
    unfolding register_test regions
    register-content j f l free fits =
        record {
          good = filled-good j 11 256 f n (λ g h. (omega arith, in_place g h ∙ fits g h)) r.good;
          inactive = λ k h. past j f n l (modifier_at k + MMODE) (omega arith) ∙ r.inactive k h;
          ticks = past j f n l t_at (lit≤ tt) ∙ r.ticks;
          kept = λ k i e g h. other j f n l k g i (λ q. true≢false (sym e ∙ ap (is_kept text) q ∙ free)) ∙ r.kept k i e g h;
        }
      where
        in_place : (g : ℕ) → g < 256 → test_at (regions text) (j + 11 * g) (f g) ≡ get_or (region (regions text) 0).tests j (λ y. false) (f g)
        in_place g h =
            let q : j + 11 * g ≡ start (regions text) 0 + (11 * g + j) = omega arith in
            ap (λ (at : ℕ). test_at (regions text) at (f g)) q ∙ unit-test (regions text) 0 g j (f g) h l

  -- Both last quadrants are.
  pub last-content : (m : Machine) → Good text m → (a b : ℕ → ℕ) → ((w : ℕ) → w < 64 → a w < 2 ^ 20) → ((w : ℕ) → w < 64 → b w < 2 ^ 20) → Content text m (with_last a b m)
  unfolding with_last
  last-content m good a b low₁ low₂ = word-content (word-content (inactive-content m good) generator_last a (lit< tt) low₁) modifier_last b (lit< tt) low₂

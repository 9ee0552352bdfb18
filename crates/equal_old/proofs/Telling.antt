-- The contents of the older text tell orders apart.
-- Assumes nothing.
use mathlib.Core.Path.{◌≡◌, refl, sym, ap, ◌∙◌}
use mathlib.Core.Logic.{◌≢◌}
use mathlib.Core.Bool.{Bool, true}
use Prim.Native.Nat.{ℕ, ◌+◌, ◌*◌, ◌/◌, ◌%◌, ◌^◌, ◌≤◌, ◌<◌}
use native.Mathlib.Omega.{arith}
use borrow.Author.Tests.{eqb-true, lt-ltb}
use lib.Dec.{eqb, lit<}
use Rattle.base_lists.proofs.Choices.{of-cond}
use Rattle.base_words.specs.Words.{sum}
use Rattle.base_words.proofs.Residues.{sum_is}
use Rattle.layout.specs.Layout.{GJ, GK}
use Rattle.layout.specs.Machine.{Machine, ticks_of, gfm_at}
use Rattle.layout_texts.specs.Texts.{run_mode_at}
use Rattle.layout_texts.specs.declared.Text.TheVariants.{Old}
use Rattle.layout_modes.specs.Modes.{wait}
use Rattle.layout_old_modes.specs.OldModes.{old_run, old_oscillator}
use Rattle.layout_old_modes.proofs.RunModes.{waits_in}
use Rattle.machine.specs.Questions.{regions}
use Rattle.machine.proofs.ValidMachine.{valid-controls}
use Rattle.pass_sums.specs.Sums.{f_at, sums_of}
use Rattle.generator.specs.declared.Generator.{Generator}
use Rattle.generator.specs.Generator.{j_of}
use Rattle.generator_old.specs.OldGenerator.{e_of, with_old_run, old_gmode_after, old_after}
use Rattle.pass_model.specs.Generators.{generator_of, turn_old, generators_of}
use Rattle.pass_laws.specs.Good.{Good}
use Rattle.compare_agreement.specs.Agreement.{settings_of}
use Rattle.parts_model.specs.Contents.{with_last, triggering_contents, own_numbers, sending_contents, sounding_contents, by_point, contents_for}
use Rattle.equal_endings.specs.AsCoded.{turn_at, sends_at}
use Rattle.equal_witnesses.specs.AsCoded.{Contents}
use Rattle.equal_contents.proofs.Words.{columns-word}
use Rattle.equal_contents.proofs.Content.{register_test, Content, register-content, last-content}
use Rattle.equal_contents.proofs.Loaded.{is-loaded, f-is}
use Rattle.equal_contents.proofs.Triggering.{choice-tells, triggering-content, same-mode, all-trigger}
use Rattle.equal_contents.proofs.Sounding.{sounding-content}
use Rattle.equal_old.proofs.Sounding.{silent-output, sounding-output}

-- GMODE of a waiting generator tells whether it was told.
mode-tells : (u : Generator) (a b : Bool) → old_run u.gmode ≡ 0b100 → old_gmode_after u a ≡ old_gmode_after u b → a ≡ b
unfolding old_gmode_after
mode-tells u a b r e = choice-tells {x = with_old_run 0b101 u.gmode} {y = u.gmode} other a b (rw r at e)
  where
    other : with_old_run 0b101 u.gmode ≢ u.gmode
    other q =
        let run : u.gmode / 2 ^ 5 ≡ 5 = omega (arith, q) in
        let both : ◌≡◌ {A = ℕ} 5 4 = sym (ap (λ (x : ℕ). x % 2 ^ 3) run) ∙ r in
        omega arith

-- J is the generator's number.
own-j : (g : ℕ) → g < 256 → sum 20 (256 * g / 2 ^ 8) 0 ≡ g
own-j g h =
    let high : 256 * g / 2 ^ 8 ≡ g = omega arith in
    let low : (g + 0) % 2 ^ 20 ≡ g = omega arith in
    rw high (sum_is 20 g 0 (omega arith) (lit< tt) ∙ low)

module _ (m : Machine) (good : Good Old m) where
  few : ticks_of m ≤ 256
  few = (valid-controls Old m good.is-valid).t_high

  told-tells : (g : ℕ) → g < 256 → eqb (run_mode_at Old m g) wait ≡ true → (a b : Bool)
      → (turn_at (generators_of Old) (triggering_contents m) g a).unit.gmode ≡ (turn_at (generators_of Old) (triggering_contents m) g b).unit.gmode → a ≡ b
  unfolding turn_old old_after
  told-tells g h w a b e =
      let u = generator_of (triggering_contents m) g in
      mode-tells u a b (eqb-true _ 0b100 (sym (waits_in u.gmode u.gn) ∙ rw (same-mode Old m good g h) w)) e

  -- What is sent is the generator's number, in every oscillator mode.
  zeros-content : Content Old m (with_last (λ w. 0) (λ w. 0) m)
  zeros-content = last-content Old m good (λ w. 0) (λ w. 0) (λ w h. lit< tt) (λ w h. lit< tt)

  sending-content : Content Old m (sending_contents Old m)
  unfolding sending_contents register_test regions
  sending-content =
      register-content Old (register-content Old zeros-content GK (λ g. g) (lit< tt) refl (λ g h. lt-ltb g (2 ^ 20) (omega arith)))
      GJ (λ g. 256 * g) (lit< tt) refl (λ g h. lt-ltb (256 * g) (2 ^ 28) (omega arith))

  sends-own : (g : ℕ) → g < 256 → sends_at (generators_of Old) (sending_contents Old m) g ≡ g
  unfolding turn_old e_of j_of sending_contents
  sends-own g h =
      let n = sending_contents Old m in
      let u = generator_of n g in
      let words = is-loaded Old n sending-content.good.is-valid g h in
      let gj : u.gj ≡ 256 * g = words.gj ∙ columns-word own_numbers (with_last (λ w. 0) (λ w. 0) m) refl zeros-content.good.whole GJ g (lit< tt) h in
      let gk : u.gk ≡ g = words.gk ∙ columns-word own_numbers (with_last (λ w. 0) (λ w. 0) m) refl zeros-content.good.whole GK g (lit< tt) h in
      let f : f_at (sums_of n) u.gfm ≡ 0
      = f-is Old m good own_numbers refl (λ w. 0) (λ w. 0) sending-content g h ∙ of-cond (λ (x : ℕ). x ≡ 0) (eqb (gfm_at m g / 64) 0) refl refl in
      of-cond (λ (x : ℕ). x ≡ g) (eqb (old_oscillator u.gmode) 0b101) (rw (gj, f) (own-j g h)) gk

  pub contents-old : Contents (generators_of Old) (settings_of Old m) (Content Old m)
  contents-old =
      record {
        triggering = triggering_contents m;
        triggering-like = triggering-content Old m good;
        triggers = λ g h. all-trigger Old m good g (omega (arith, few));
        tells = λ g h. told-tells g (omega (arith, few));
        sending = sending_contents Old m;
        sending-like = sending-content;
        sources = λ a b i j q. sym (sends-own a (omega (arith, few))) ∙ q ∙ sends-own b (omega (arith, few));
        sounding = sounding_contents Old m;
        sounding-like = sounding-content Old m good;
        sounds = λ k h. sounding-output m good k k (omega (arith, few)) refl;
        others-silent = λ k g l n. silent-output m good k g (omega (arith, few)) n;
      }

  -- They are the contents for a point.
  pub contents-are : (point k : ℕ)
      → by_point point contents-old.triggering (contents-old.sounding k) contents-old.sending ≡ contents_for Old m point k
  unfolding contents-old contents_for
  contents-are point k = refl

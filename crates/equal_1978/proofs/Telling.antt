-- The contents of the 1978 text tell orders apart.
-- Assumes nothing.
use mathlib.Core.Path.{◌≡◌, refl, sym, ◌∙◌}
use mathlib.Core.Bool.{Bool, true, cond}
use mathlib.Core.List.{[]}
use Prim.Native.Nat.{ℕ, ◌+◌, ◌/◌, ◌%◌, ◌≤◌, ◌<◌}
use native.Mathlib.Omega.{arith}
use borrow.Author.Tests.{eqb-true, eqb-false}
use lib.Dec.{eqb}
use Rattle.base_lists.proofs.Choices.{of_test}
use Rattle.layout.specs.Machine.{Machine, ticks_of, gfm_at}
use Rattle.layout_texts.specs.Texts.{run_mode_at}
use Rattle.layout_texts.specs.declared.Text.TheVariants.{Of1978}
use Rattle.layout_modes.specs.Modes.{wait, running_c, with_run_mode}
use Rattle.machine.proofs.ValidMachine.{valid-generator, valid-controls}
use Rattle.generator.specs.declared.Generator.{Generator}
use Rattle.generator.specs.Generator.{run_mode, triggers, gmode_after, after}
use Rattle.pass_model.specs.Generators.{generator_of, turn1978, generators_of}
use Rattle.pass_laws.specs.Good.{Good}
use Rattle.compare_agreement.specs.Agreement.{settings_of}
use Rattle.equal_endings.specs.AsCoded.{turn_at, sends_at}
use Rattle.equal_witnesses.specs.AsCoded.{Contents}
use Rattle.equal_contents.proofs.Content.{Content, last-content}
use Rattle.equal_contents.proofs.Loaded.{f-is}
use Rattle.equal_contents.proofs.Triggering.{choice-tells, triggering-content, same-mode, all-trigger}
use Rattle.equal_contents.proofs.Sounding.{sounding-content}
use Rattle.equal_1978.proofs.Sounding.{silent-output, sounding-output}
use Rattle.parts_model.specs.Contents.{triggering_contents, sending_contents, sounding_contents, by_point, contents_for}

-- GMODE of a waiting generator tells whether it was told.
mode-tells : (u : Generator) (a b : Bool) → run_mode u ≡ wait → gmode_after u a ≡ gmode_after u b → a ≡ b
unfolding gmode_after
mode-tells u a b r e = choice-tells {x = with_run_mode running_c u.gmode} {y = u.gmode} (λ q. omega arith) a b (rw r at e)

-- GFM has 7 bits: its two halves are the words of generator-last and of modifier-last.
either-half : (x : ℕ) → x < 128 → cond (eqb (x / 64) 0) (x % 64) (64 + x % 64) ≡ x
either-half x h =
    of_test (λ (y : ℕ). y ≡ x) (eqb (x / 64) 0) (λ e. omega (arith, eqb-true (x / 64) 0 e)) (λ e. omega (arith, eqb-false (x / 64) 0 e))

module _ (m : Machine) (good : Good Of1978 m) where
  few : ticks_of m ≤ 256
  few = (valid-controls Of1978 m good.is-valid).t_high

  told-tells : (g : ℕ) → g < 256 → eqb (run_mode_at Of1978 m g) wait ≡ true → (a b : Bool)
      → (turn_at (generators_of Of1978) (triggering_contents m) g a).unit.gmode ≡ (turn_at (generators_of Of1978) (triggering_contents m) g b).unit.gmode → a ≡ b
  unfolding turn1978 after
  told-tells g h w a b e = mode-tells (generator_of (triggering_contents m) g) a b (same-mode Of1978 m good g h ∙ eqb-true (run_mode_at Of1978 m g) wait w) e

  -- What is sent is F, which tells GFM.
  sending-content : Content Of1978 m (sending_contents Of1978 m)
  unfolding sending_contents
  sending-content = last-content Of1978 m good (λ w. w) (λ w. 64 + w) (λ w h. omega arith) (λ w h. omega arith)

  sends-gfm : (g : ℕ) → g < 256 → sends_at (generators_of Of1978) (sending_contents Of1978 m) g ≡ gfm_at m g
  unfolding turn1978 sending_contents
  sends-gfm g h =
      f-is Of1978 m good [] refl (λ w. w) (λ w. 64 + w) sending-content g h ∙ either-half (gfm_at m g) (valid-generator Of1978 m good.is-valid g h).gfm

  pub contents-1978 : Contents (generators_of Of1978) (settings_of Of1978 m) (Content Of1978 m)
  contents-1978 =
      record {
        triggering = triggering_contents m;
        triggering-like = triggering-content Of1978 m good;
        triggers = λ g h. all-trigger Of1978 m good g (omega (arith, few));
        tells = λ g h. told-tells g (omega (arith, few));
        sending = sending_contents Of1978 m;
        sending-like = sending-content;
        sources = λ a b i j q. sym (sends-gfm a (omega (arith, few))) ∙ q ∙ sends-gfm b (omega (arith, few));
        sounding = sounding_contents Of1978 m;
        sounding-like = sounding-content Of1978 m good;
        sounds = λ k h. sounding-output m good k k (omega (arith, few)) refl;
        others-silent = λ k g l n. silent-output m good k g (omega (arith, few)) n;
      }

  -- They are the contents for a point.
  pub contents-are : (point k : ℕ)
      → by_point point contents-1978.triggering (contents-1978.sounding k) contents-1978.sending ≡ contents_for Of1978 m point k
  unfolding contents-1978 contents_for
  contents-are point k = refl

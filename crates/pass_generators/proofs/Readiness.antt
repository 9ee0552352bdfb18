-- A step leaves the generators ready: it puts words within their widths, and leaves all others.
-- Assumes nothing.
use mathlib.Core.Path.{◌≡◌, refl, ◌∙◌}
use mathlib.Core.Bool.{Bool, true, false}
use mathlib.Core.List.{List}
use Prim.Native.Nat.{ℕ, ◌+◌, ◌<◌}
use native.Mathlib.Omega.{arith}
use lib.Dec.{eqb}
use lib.ListN.{length}
use borrow.Author.Tests.{eqb-true, eqb-false}
use Rattle.layout.specs.Layout.{generator_at, generator_words, GJ, GK, GQ, GMODE}
use Rattle.layout.specs.Machine.{Items}
use Rattle.layout_texts.specs.Texts.{distance_of}
use Rattle.layout_texts.specs.declared.Text.{Text}
use Rattle.layout.proofs.Reach.{same-reach}
use Rattle.generator.specs.declared.Generator.{Generator}
use Rattle.generator.specs.Generator.{Ranged, stored}
use Rattle.pass_model.specs.Generators.{generators_of, State, triggered_below, contribution_of, step}
use Rattle.pass_model.proofs.Puts.{Apart, put-length, put-apart, put-gj, put-gk, put-gq, put-gmode, dac-apart, dac-length}
use Rattle.pass_model.proofs.Keeps.{turn-keeps}
use Rattle.pass_generators.specs.AsCoded.{WithinWidths, Ready}

-- Generator h after generator g was put back: as it was, or as it was put.
low-after : (words : List ℕ) (g h : ℕ) (u : Generator) → g < 256 → h < 256 → Ready words → Ranged u → WithinWidths (stored words (generator_at g) u) h
low-after words g h u hg hh ready r = go (eqb h g) refl
  where
    reach : generator_at g + GMODE < length words
    reach = omega (arith, ready.reaches.all)

    other : (h ≡ g → ⊥) → (j : ℕ) → j < generator_words → Apart (generator_at h + j) g
    other n j k =
        record {
          not-gj = λ e. n (omega arith);
          not-gk = λ e. n (omega arith);
          not-gq = λ e. n (omega arith);
          not-gmode = λ e. n (omega arith);
        }

    go : (b : Bool) → eqb h g ≡ b → WithinWidths (stored words (generator_at g) u) h
    go true e =
        rw (eqb-true h g e)
        (record {
          gj-low = rw (put-gj words g u reach) r.gj-low;
          gk-low = rw (put-gk words g u reach) r.gk-low;
          gq-low = rw (put-gq words g u reach) r.gq-low;
          gmode-low = rw (put-gmode words g u reach) r.gmode-low;
        })
    go false e =
        let n = eqb-false h g e in
        let l = ready.low h hh in
        record {
          gj-low = rw (put-apart words g u (generator_at h + GJ) (other n GJ (omega arith))) l.gj-low;
          gk-low = rw (put-apart words g u (generator_at h + GK) (other n GK (omega arith))) l.gk-low;
          gq-low = rw (put-apart words g u (generator_at h + GQ) (other n GQ (omega arith))) l.gq-low;
          gmode-low = rw (put-apart words g u (generator_at h + GMODE) (other n GMODE (omega arith))) l.gmode-low;
        }

-- A step leaves the generators ready.
pub step-ready : (text : Text) (items : Items) (s : State) (g : ℕ) → g < 256 → Ready s.words → Ready (step (generators_of text) items s g).words
unfolding step
step-ready text items s g hg ready =
    let b = contribution_of (generators_of text) s g in
    let ws = stored s.words (generator_at g) b.unit in
    record {
      reaches = same-reach (dac-length ws b ∙ put-length s.words g b.unit) ready.reaches;
      low = λ h hh.
          let l = low-after s.words g h b.unit hg hh ready (turn-keeps text s.words s.sums g (triggered_below (distance_of text) s.triggered g)).ranged in
          record {
            gj-low = rw (dac-apart ws b (generator_at h + GJ) (omega arith)) l.gj-low;
            gk-low = rw (dac-apart ws b (generator_at h + GK) (omega arith)) l.gk-low;
            gq-low = rw (dac-apart ws b (generator_at h + GQ) (omega arith)) l.gq-low;
            gmode-low = rw (dac-apart ws b (generator_at h + GMODE) (omega arith)) l.gmode-low;
          };
    }

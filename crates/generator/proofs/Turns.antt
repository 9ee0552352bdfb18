-- The code's steps, one after the other, are the turn that Generator.antt defines.
-- Assumes nothing.
use mathlib.Core.Path.{◌≡◌, refl, ap, ◌∙◌}
use mathlib.Core.Bool.{Bool, true, false, cond, ◌&&◌, and-true, and-false}
use Prim.Native.Nat.{ℕ, ◌/◌, ◌^◌, ◌<◌}
use lib.Dec.{eqb}
use lib.IntN.{ℤ}
use borrow.Author.Tests.{ne_eqb}
use Rattle.base_words.specs.declared.SignMagnitude.{SignMagnitude}
use Rattle.base_words.specs.Words.{low_bits, sum, sum_into, leaves, value_of}
use Rattle.layout_modes.specs.declared.Switches.{Switches}
use Rattle.layout_modes.specs.Modes.{oscillator_on, envelope_on, free, wait, running_c, switches_of, with_run_mode}
use Rattle.layout_modes.proofs.RunModes.{oscillator-tells, free-tells}
use Rattle.layout_modes.proofs.Exclusions.{quiet, off-not-on}
use Rattle.generator_oscillator.specs.Oscillator.{Wave, wave_of, sine_wave, sum_of_cosines}
use Rattle.generator_envelope.specs.Envelope.{overflows, decayed, enveloped}
use Rattle.base_lists.specs.Lists.{is_one_of}
use Rattle.generator.specs.declared.Generator.{Generator}
use Rattle.generator.specs.declared.Sounded.{Sounded}
use Rattle.generator.specs.Generator.{updated, Ranged, run_mode, oscillator_mode, j_of, k_of, left_range, w_of, v_of, p_of, gj_after, gk_after, gq_after, gmode_after, triggers, after, sounded_of}
use Rattle.generator.specs.AsCoded.{phase_of, oscillated, k_by, left_by, output_by, advanced_by, ended_of}

-- J, of the exact sum of step 1.
pub phase-low : (g : Generator) (f : ℕ) → low_bits 20 (phase_of g f) ≡ j_of g f
unfolding phase_of j_of sum
phase-low g f = refl

pub low-is-j : (g : Generator) (f : ℕ) {z : ℤ} {j : ℕ} → z ≡ phase_of g f → j ≡ low_bits 20 z → j ≡ j_of g f
low-is-j g f h l = l ∙ ap (low_bits 20) h ∙ phase-low g f

-- P, of the exact sum of step 1, J and the oscillator's switch.
pub output-is : (g : Generator) (f : ℕ) → output_by (oscillator_on (run_mode g)) g (phase_of g f) (j_of g f) ≡ p_of g f
unfolding output_by k_by left_by p_of w_of k_of left_range phase_of leaves
output-is g f = refl

-- K: of J in the mode 1000, else of GK.
pub k-of-j : (g : Generator) (j : ℕ) → oscillator_mode g ≡ 8 → j / 2 ^ 7 ≡ k_by g j
unfolding k_by
k-of-j g j e = rw e refl

pub k-of-gk : (g : Generator) (j : ℕ) → ¬ (oscillator_mode g ≡ 8) → g.gk / 2 ^ 7 ≡ k_by g j
unfolding k_by
k-of-gk g j n = rw (ne_eqb (oscillator_mode g) 8 n) refl

-- P by the oscillator mode, of K and V.
module _ (on : Bool) (g : Generator) (z : ℤ) (j v k : ℕ) {p : ℕ} (is-v : v ≡ v_of g) (is-k : k ≡ k_by g j) where
  pub output-shaped : {w : SignMagnitude} → p ≡ low_bits 20 (enveloped (value_of w) v)
      → Wave (wave_of (oscillator_mode g) k g.gn g.gm (left_by on g z j)) w → p ≡ output_by on g z j
  unfolding output_by
  output-shaped h x = rw (← is-k, ← x.is, ← is-v) h

  pub output-cosines : p ≡ low_bits 20 (enveloped (sum_of_cosines k g.gn g.gm) v) → oscillator_mode g ≡ 4 → p ≡ output_by on g z j
  unfolding output_by wave_of
  output-cosines h e = rw (← is-k, e, ← is-v) h

  -- 0000, 1000 and a mode that isn't built.
  pub output-sine : p ≡ low_bits 20 (enveloped (sine_wave k g.gm) v)
      → ¬ (oscillator_mode g ≡ 1) → ¬ (oscillator_mode g ≡ 2) → ¬ (oscillator_mode g ≡ 3) → ¬ (oscillator_mode g ≡ 4) → p ≡ output_by on g z j
  unfolding output_by wave_of
  output-sine h a b c d =
      simp (ne_eqb (oscillator_mode g) 1 a, ne_eqb (oscillator_mode g) 2 b, ne_eqb (oscillator_mode g) 3 c, ne_eqb (oscillator_mode g) 4 d)
      (rw (← is-k, ← is-v) h)

-- GP added into GQ.
abbrev decays : Bool → Generator → Generator
decays b g = updated g g.gj g.gk (decayed b g.gq g.gp) g.gmode

decays-by : (g : Generator) (b o : Bool) (gj gk : ℕ) →
    decays b (cond o (updated g gj gk g.gq g.gmode) g)
    ≡ updated g (cond o gj g.gj) (cond o gk g.gk) (decayed b g.gq g.gp) g.gmode
decays-by g b true gj gk = refl
decays-by g b false gj gk = refl

ends_by : (g : Generator) → ended_of g ≡ updated g g.gj g.gk g.gq (cond (eqb (run_mode g) running_c) (with_run_mode wait g.gmode) g.gmode)
unfolding ended_of
ends_by g = go (eqb (run_mode g) running_c)
  where
    go : (b : Bool) →
        cond b (updated g g.gj g.gk g.gq (with_run_mode wait g.gmode)) g
        ≡ updated g g.gj g.gk g.gq (cond b (with_run_mode wait g.gmode) g.gmode)
    go true = refl
    go false = refl

-- Steps 2, 4 and 7 by the switches of a run mode r: the registers with GMODE as it was, P, and whether it triggers.
pub advanced-in : (r : ℕ) (on : Switches) → on ≡ switches_of r → (g : Generator) (j p : ℕ) →
    advanced_by on g j p
    ≡ record {
      unit = updated g (cond (oscillator_on r) (sum_into 28 20 g.gj g.go) g.gj) (cond (oscillator_on r) (sum 20 g.gk j) g.gk) (decayed (free r) g.gq g.gp) g.gmode;
      p = p;
      triggers = free r && overflows g.gq g.gp;
    }
unfolding advanced_by oscillated
advanced-in r on same g j p = rw (same, oscillator-tells r, free-tells r, decays-by g (free r) (oscillator_on r) _ _)

-- The turn of a generator whose envelope is on by the code's values: the exact sum z of step 1, J, P, and x after steps 2, 4 and 7.
module _ (g : Generator) (f : ℕ) (on : Switches) (same : on ≡ switches_of (run_mode g)) (sounds : envelope_on (run_mode g) ≡ true)
    (z : ℤ) (j p : ℕ) (x : Sounded) (is-z : z ≡ phase_of g f) (is-low : j ≡ low_bits 20 z) (is-p : p ≡ output_by on.oscillator g z j)
    (is_x : x ≡ advanced_by on g j p) where
  is-j : j ≡ j_of g f
  is-j = low-is-j g f is-z is-low

  p-same : p ≡ p_of g f
  p-same = rw (is-p, is-z, is-j, same, oscillator-tells (run_mode g)) (output-is g f)

  x-same : x ≡ record { unit = updated g (gj_after g) (gk_after g f) (gq_after g) g.gmode; p = p_of g f; triggers = triggers g }
  unfolding gj_after gk_after gq_after triggers
  x-same = is_x ∙ advanced-in (run_mode g) on same g j p ∙ rw (is-j, p-same, sounds)

  triggers-same : {t : Bool} → x.triggers ≡ t → triggers g ≡ t
  triggers-same h = rw (← h, x-same)

  -- One that triggers, and one that doesn't.
  pub sounded-triggers : {w : Generator} → w ≡ ended_of x.unit → x.triggers ≡ true → record { unit = w; p = x.p; triggers = x.triggers } ≡ sounded_of g f
  unfolding sounded_of after gmode_after
  sounded-triggers e t = rw (t, e, x-same, ends_by, triggers-same t, and-true, and-false)

  pub sounded-quiet : x.triggers ≡ false → x ≡ sounded_of g f
  unfolding sounded_of after gmode_after
  sounded-quiet t = x-same ∙ simp (triggers-same t, and-false)

oscillated-gq : (o : Bool) (g : Generator) (j : ℕ) → (oscillated o g j).gq ≡ g.gq
unfolding oscillated
oscillated-gq true g j = refl
oscillated-gq false g j = refl

oscillated-gp : (o : Bool) (g : Generator) (j : ℕ) → (oscillated o g j).gp ≡ g.gp
unfolding oscillated
oscillated-gp true g j = refl
oscillated-gp false g j = refl

-- GQ and GP are within their widths after the oscillator's steps.
pub still-ranged : (o : Bool) (g : Generator) (j : ℕ) → Ranged g → ((oscillated o g j).gq < 2 ^ 24) × ((oscillated o g j).gp < 2 ^ 20)
still-ranged o g j r = (rw (oscillated-gq o g j) r.gq-low, rw (oscillated-gp o g j) r.gp-low)

-- The turn of a generator that waits.
pub turn-waits : (g : Generator) (f : ℕ) (triggered_below : Bool) → run_mode g ≡ wait →
    after g f triggered_below
    ≡ updated g (sum_into 28 20 g.gj g.go) (sum 20 g.gk (j_of g f)) g.gq (cond triggered_below (with_run_mode running_c g.gmode) g.gmode)
unfolding after gj_after gk_after gq_after gmode_after oscillator_on envelope_on is_one_of
turn-waits g f triggered_below h = rw h

-- A generator with nothing on is as it was after its turn.
pub rests : (g : Generator) (f : ℕ) (triggered_below : Bool) → envelope_on (run_mode g) ≡ false → oscillator_on (run_mode g) ≡ false → after g f triggered_below ≡ g
unfolding after gj_after gk_after gq_after gmode_after triggers oscillator_on is_one_of
rests g f triggered_below e o = rw (o, e, (quiet (run_mode g) e).not_free, and-false, off-not-on oscillator_on (run_mode g) wait o refl)

-- What a generator that doesn't wait is told makes no difference.
pub after-untold : (g : Generator) (f : ℕ) (triggered_below : Bool) → eqb (run_mode g) wait ≡ false → after g f triggered_below ≡ after g f false
unfolding after gmode_after
after-untold g f triggered_below h = rw h

-- The code's steps, one after the other, are the turn that OldGenerator.antt defines.
-- Assumes nothing.
use mathlib.Core.Path.{◌≡◌, refl, sym, ◌∙◌}
use mathlib.Core.Bool.{Bool, true, false, cond, and-true, and-false}
use Prim.Native.Nat.{ℕ, ◌^◌, ◌<◌}
use lib.Dec.{eqb}
use lib.IntN.{ℤ}
use borrow.Author.Tests.{eq-eqb, eqb-true}
use Rattle.base_words.specs.Words.{low_bits, sum, sum_into, leaves}
use Rattle.base_words.proofs.Residues.{either-low, sum_low}
use Rattle.layout_modes.specs.declared.Switches.{Switches}
use Rattle.layout_modes.specs.Modes.{oscillator_on, envelope_on, wait, switches_of}
use Rattle.layout_modes.proofs.RunModes.{oscillator-tells}
use Rattle.layout_modes.proofs.Exclusions.{quiet, off-not-on}
use Rattle.base_lists.specs.Lists.{is_one_of}
use Rattle.generator.specs.declared.Generator.{Generator}
use Rattle.generator.specs.declared.Sounded.{Sounded}
use Rattle.generator.specs.Generator.{updated, Ranged, j_of, gj_after, gk_after, gq_after, triggers}
use Rattle.generator.specs.AsCoded.{phase_of, left_by, advanced_by}
use Rattle.generator.proofs.Turns.{low-is-j, advanced-in}
use Rattle.layout_old_modes.specs.OldModes.{old_run, old_oscillator}
use Rattle.generator_old.specs.OldGenerator.{switched_mode, switched, e_of, old_k, old_w, old_p, with_old_run, old_gmode_after, old_after, old_sounded}
use Rattle.generator_old.specs.AsCoded.{e_by, old_output_by, old_ended_of}
use Rattle.layout_old_modes.proofs.RunModes.{waits_in}
use Rattle.generator_old.proofs.Switched.{gj-switched, gk-switched, left-switched, gq-switched, triggers-switched}

-- E is a word of 20 bits.
pub e-by-low : (g : Generator) (j : ℕ) → Ranged g → j < 2 ^ 20 → e_by g j < 2 ^ 20
unfolding e_by
e-by-low g j r h = either-low (eqb (old_oscillator g.gmode) 0b101) h r.gk-low

pub e-low : (g : Generator) (f : ℕ) → Ranged g → e_of g f < 2 ^ 20
unfolding e_of j_of
e-low g f r = either-low (eqb (old_oscillator g.gmode) 0b101) (sum_low 20 _ f) r.gk-low

pub e-is : (g : Generator) (f : ℕ) {z : ℤ} {j e : ℕ} → z ≡ phase_of g f → j ≡ low_bits 20 z → e ≡ e_by g j → e ≡ e_of g f
unfolding e_by e_of
e-is g f h l k = k ∙ rw (low-is-j g f h l)

-- P, of the exact sum of step 1, J and the oscillator's switch.
pub old-output-is : (g : Generator) (f : ℕ) → old_output_by (oscillator_on (switched_mode g)) g (phase_of g f) (j_of g f) ≡ old_p g f
unfolding old_output_by e_by left_by old_p old_w old_k e_of phase_of leaves
old-output-is g f = rw (left-switched g f)

-- The turn of a generator whose envelope is on by the code's values: the exact sum z of step 1, J, P, and x after steps 2, 4 and 7.
module _ (g : Generator) (f : ℕ) (on : Switches) (same : on ≡ switches_of (switched_mode g)) (sounds : envelope_on (switched_mode g) ≡ true)
    (z : ℤ) (j p : ℕ) (x : Sounded) (is-z : z ≡ phase_of g f) (is-low : j ≡ low_bits 20 z) (is-p : p ≡ old_output_by on.oscillator g z j)
    (is_x : x ≡ advanced_by on g j p) where
  is-j : j ≡ j_of g f
  is-j = low-is-j g f is-z is-low

  p-same : p ≡ old_p g f
  p-same = rw (is-p, is-z, is-j, same, oscillator-tells (switched_mode g)) (old-output-is g f)

  x-same : x ≡ record { unit = updated g (gj_after (switched g)) (gk_after (switched g) f) (gq_after (switched g)) g.gmode; p = old_p g f; triggers = triggers (switched g) }
  x-same =
      is_x
      ∙ advanced-in (switched_mode g) on same g j p
      ∙ rw (gj-switched g, gk-switched g f, gq-switched g, triggers-switched g, is-j, p-same, sounds)

  triggers-same : {t : Bool} → x.triggers ≡ t → triggers (switched g) ≡ t
  triggers-same h = rw (← h, x-same)

  -- One that triggers, and one that doesn't.
  pub old-sounded-triggers : {w : Generator} → w ≡ old_ended_of x.unit → x.triggers ≡ true → record { unit = w; p = x.p; triggers = x.triggers } ≡ old_sounded g f
  unfolding old_sounded old_after old_gmode_after old_ended_of
  old-sounded-triggers e t = rw (t, e, x-same, triggers-same t, and-true, and-false)

  pub old-sounded-quiet : x.triggers ≡ false → x ≡ old_sounded g f
  unfolding old_sounded old_after old_gmode_after
  old-sounded-quiet t = x-same ∙ simp (triggers-same t, and-false)

-- The turn of a generator that waits.
pub old-turn-waits : (g : Generator) (f : ℕ) (triggered_below : Bool) → switched_mode g ≡ wait →
    old_after g f triggered_below
    ≡ updated g (sum_into 28 20 g.gj g.go) (sum 20 g.gk (j_of g f)) g.gq (cond triggered_below (with_old_run 0b101 g.gmode) g.gmode)
unfolding old_after old_gmode_after oscillator_on envelope_on is_one_of
old-turn-waits g f triggered_below h = rw (gj-switched g, gk-switched g f, gq-switched g, h, is-100)
  where
    is-100 : old_run g.gmode ≡ 0b100
    is-100 = eqb-true _ 0b100 (sym (waits_in g.gmode g.gn) ∙ eq-eqb _ wait h)

-- A generator with nothing on is as it was after its turn.
pub old-rests : (g : Generator) (f : ℕ) (triggered_below : Bool) → envelope_on (switched_mode g) ≡ false → oscillator_on (switched_mode g) ≡ false → old_after g f triggered_below ≡ g
unfolding old_after old_gmode_after oscillator_on is_one_of
old-rests g f triggered_below e o =
    rw (gj-switched g, gk-switched g f, gq-switched g, triggers-switched g, o, e, (quiet (switched_mode g) e).not_free, and-false, ← (waits_in g.gmode g.gn), off-not-on oscillator_on (switched_mode g) wait o refl)

-- What a generator that doesn't wait is told makes no difference.
pub old-after-untold : (g : Generator) (f : ℕ) (triggered_below : Bool) → eqb (switched_mode g) wait ≡ false → old_after g f triggered_below ≡ old_after g f false
unfolding old_after old_gmode_after
old-after-untold g f triggered_below h = rw (← (waits_in g.gmode g.gn), h)

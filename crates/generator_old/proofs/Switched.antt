-- The generator with the run mode that it is switched as, in the 1978 steps.
-- Assumes nothing.
use mathlib.Core.Path.{◌≡◌}
use mathlib.Core.Bool.{cond, ◌&&◌, ◌||◌}
use Prim.Native.Nat.{ℕ, ◌*◌, ◌/◌, ◌^◌}
use native.Mathlib.Omega.{arith}
use Rattle.base_words.specs.Words.{sum, sum_into, leaves}
use Rattle.layout_modes.specs.Modes.{oscillator_on, envelope_on, free}
use Rattle.generator_envelope.specs.Envelope.{overflows, decayed}
use Rattle.generator.specs.declared.Generator.{Generator}
use Rattle.generator.specs.Generator.{j_of, gj_after, gk_after, left_range, gq_after, triggers}
use Rattle.generator_old.specs.OldGenerator.{switched_mode, switched}

-- What steps 1, 2, 4 and 7 look at in a generator with the 1978 run mode.
within : (x : ℕ) → x * 2 ^ 6 / 2 ^ 6 ≡ x
within x = omega arith

module _ (g : Generator) where
  pub gj-switched : gj_after (switched g) ≡ cond (oscillator_on (switched_mode g)) (sum_into 28 20 g.gj g.go) g.gj
  unfolding gj_after switched
  gj-switched = rw (within (switched_mode g))

  pub gk-switched : (f : ℕ) → gk_after (switched g) f ≡ cond (oscillator_on (switched_mode g)) (sum 20 g.gk (j_of g f)) g.gk
  unfolding gk_after j_of switched
  gk-switched f = rw (within (switched_mode g))

  pub left-switched : (f : ℕ) → left_range (switched g) f ≡ (leaves 20 (g.gj / 2 ^ 8) f || (oscillator_on (switched_mode g) && leaves 20 g.gk (j_of g f)))
  unfolding left_range j_of switched
  left-switched f = rw (within (switched_mode g))

  pub gq-switched : gq_after (switched g) ≡ cond (envelope_on (switched_mode g)) (decayed (free (switched_mode g)) g.gq g.gp) g.gq
  unfolding gq_after switched
  gq-switched = rw (within (switched_mode g))

  pub triggers-switched : triggers (switched g) ≡ (free (switched_mode g) && overflows g.gq g.gp)
  unfolding triggers switched
  triggers-switched = rw (within (switched_mode g))

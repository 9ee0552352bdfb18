-- The steps of a generator's turn as the code takes them, of values that it has at hand: the exact sum of step 1, J, and whether the oscillator is on. Laws in proofs/ join them to the definitions of Generator.antt, which alone say what is right.
-- Assumes nothing.
use Rattle.std.specs.Prelude.{ℕ, ◌/◌, ◌^◌, Bool, cond, ◌&&◌, ◌||◌, eqb, leb, ℤ, ◌+ℤ◌}
use Rattle.std.specs.Int.Signed.{mag}
use Rattle.base_words.specs.Words.{low_bits, signed, sum, sum_into, leaves}
use Rattle.layout_modes.specs.declared.Switches.{Switches}
use Rattle.layout_modes.specs.Modes.{wait, running_c, with_run_mode}
use Rattle.generator_oscillator.specs.Oscillator.{wave_of}
use Rattle.generator_envelope.specs.Envelope.{overflows, decayed, enveloped}
use Rattle.generator.specs.declared.Generator.{Generator}
use Rattle.generator.specs.declared.Sounded.{Sounded}
use Rattle.generator.specs.Generator.{updated, run_mode, oscillator_mode, v_of}

-- Step 1: the high 20 bits of GJ plus F, before J is made of it.
unfoldable pub phase_of : Generator → ℕ → ℤ
phase_of g f = signed 20 (g.gj / 2 ^ 8) +ℤ signed 20 f

-- Steps 2 and 4.
unfoldable pub oscillated : Bool → Generator → ℕ → Generator
oscillated on g j =
    cond on (updated g (sum_into 28 20 g.gj g.go) (sum 20 g.gk j) g.gq g.gmode) g

-- Step 3.
unfoldable pub k_by : Generator → ℕ → ℕ
k_by g j = cond (eqb (oscillator_mode g) 8) j g.gk / 2 ^ 7

-- Whether a sum of step 1, exactly z, or of step 4 left its range.
unfoldable pub left_by : Bool → Generator → ℤ → ℕ → Bool
left_by on g z j = leb (2 ^ 19) (mag z) || (on && leaves 20 g.gk j)

-- Steps 6 to 9.
unfoldable pub output_by : Bool → Generator → ℤ → ℕ → ℕ
output_by on g z j = low_bits 20 (enveloped (wave_of (oscillator_mode g) (k_by g j) g.gn g.gm (left_by on g z j)) (v_of g))

-- Steps 2, 4 and 7 by a run mode's switches, its envelope being on: the registers with GMODE as it was, P, and whether a free envelope overflows.
unfoldable pub advanced_by : Switches → Generator → ℕ → ℕ → Sounded
advanced_by on g j p =
    let u = oscillated on.oscillator g j in
    record {
      unit = updated u u.gj u.gk (decayed on.free u.gq u.gp) u.gmode;
      p = p;
      triggers = on.free && overflows g.gq g.gp;
    }

-- 1101 goes to 1001.
unfoldable pub ended_of : Generator → Generator
ended_of g =
    cond (eqb (run_mode g) running_c) (updated g g.gj g.gk g.gq (with_run_mode wait g.gmode)) g

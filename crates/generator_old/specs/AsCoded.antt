-- The steps of a generator's turn as the code takes them, of the exact sum of step 1, J, and whether the oscillator is on. Laws in proofs/ join them to the definitions of OldGenerator.antt, which alone say what is right.
-- Assumes nothing.
use Rattle.std.specs.Prelude.{ℕ, ◌/◌, ◌^◌, Bool, cond, eqb, ℤ}
use Rattle.base_words.specs.Words.{low_bits}
use Rattle.generator_envelope.specs.Envelope.{enveloped}
use Rattle.generator_old_waves.specs.OldWaves.{old_wave}
use Rattle.generator.specs.declared.Generator.{Generator}
use Rattle.generator.specs.Generator.{updated}
use Rattle.generator.specs.AsCoded.{left_by}
use Rattle.layout_old_modes.specs.OldModes.{old_run, old_oscillator}
use Rattle.generator_old.specs.OldGenerator.{old_v, with_old_run}

-- Step 3: E.
unfoldable pub e_by : Generator → ℕ → ℕ
e_by g j = cond (eqb (old_oscillator g.gmode) 0b101) j g.gk

-- Steps 6 to 9.
unfoldable pub old_output_by : Bool → Generator → ℤ → ℕ → ℕ
old_output_by on g z j = low_bits 20 (enveloped (old_wave (old_oscillator g.gmode) (e_by g j / 2 ^ 8) g.gm (left_by on g z j)) (old_v g))

-- 101 goes to 100.
unfoldable pub old_ended_of : Generator → Generator
old_ended_of g =
    updated g g.gj g.gk g.gq (cond (eqb (old_run g.gmode) 0b101) (with_old_run 0b100 g.gmode) g.gmode)

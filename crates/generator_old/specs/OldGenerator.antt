-- One generator of the older text: what its turn in a pass brings, and its registers afterwards (document 02, Q-10). Its registers, and steps 1, 2, 4 and 7, are the 1978 text's.
-- Assumes nothing.
use Rattle.std.specs.Prelude.{ℕ, ◌+◌, ◌*◌, ◌/◌, ◌%◌, ◌^◌, Bool, false, cond, ◌&&◌, eqb, leb, ℤ}
use Rattle.base_words.specs.Words.{low_bits}
use Rattle.generator_exponential.specs.Exponential.{older_size, exponential}
use Rattle.layout_old_modes.specs.OldModes.{old_run, old_envelope, old_oscillator, old_run_mode}
use Rattle.generator_envelope.specs.Envelope.{h_of, level_by, enveloped}
use Rattle.generator_old_waves.specs.OldWaves.{old_wave}
use Rattle.generator.specs.declared.Generator.{Generator}
use Rattle.generator.specs.declared.Sounded.{Sounded}
use Rattle.generator.specs.Generator.{updated, j_of, gj_after, gk_after, left_range, gq_after, triggers}

-- Its run mode in the 1978 coding.
abbrev pub switched_mode : Generator → ℕ
switched_mode g = old_run_mode g.gmode g.gn

-- The generator with that run mode: steps 1, 2, 4 and 7 are the 1978 text's, taken of it.
unfoldable pub switched : Generator → Generator
switched g = updated g g.gj g.gk g.gq (switched_mode g * 2 ^ 6)

-- Step 3. E: J in the oscillator mode 101, else GK. It is what 111 sends (step 5). K: the high 12 bits of E.
unfoldable pub e_of : Generator → ℕ → ℕ
e_of g f = cond (eqb (old_oscillator g.gmode) 0b101) (j_of g f) g.gk

unfoldable pub old_k : Generator → ℕ → ℕ
old_k g f = e_of g f / 2 ^ 8

-- Step 6. W.
unfoldable pub old_w : Generator → ℕ → ℤ
old_w g f = old_wave (old_oscillator g.gmode) (old_k g f) g.gm (left_range (switched g) f)

-- Step 8. Q: H in the envelope modes 00 and 01, in 10 and 11 the exponential of H, document 01's of 256 entries.
unfoldable pub old_q : ℕ → ℕ → ℕ
old_q mode gq = cond (leb 2 mode) (exponential older_size (h_of gq)) (h_of gq)

-- V: GL + Q in 00 and 10, GL - Q in 01 and 11.
unfoldable pub old_level : ℕ → ℕ → ℕ → ℕ
old_level mode gl gq = level_by (eqb (mode % 2) 0) gl (old_q mode gq)

unfoldable pub old_v : Generator → ℕ
old_v g = old_level (old_envelope g.gmode) g.gl g.gq

-- Step 9. P, as a word of 20 bits.
unfoldable pub old_p : Generator → ℕ → ℕ
old_p g f = low_bits 20 (enveloped (old_w g f) (old_v g))

-- GMODE with another run mode, its other bits kept.
abbrev pub with_old_run : ℕ → ℕ → ℕ
with_old_run r gmode = r * 2 ^ 5 + gmode % 2 ^ 5

-- GMODE afterwards: 101 goes to 100 as it triggers; 100 goes to 101 where it is told that its lower neighbour was taken earlier in this pass and triggered.
unfoldable pub old_gmode_after : Generator → Bool → ℕ
old_gmode_after g triggered_below =
    cond (eqb (old_run g.gmode) 0b101 && triggers (switched g)) (with_old_run 0b100 g.gmode)
    (cond (eqb (old_run g.gmode) 0b100 && triggered_below) (with_old_run 0b101 g.gmode)
    g.gmode)

-- The generator after its turn.
unfoldable pub old_after : Generator → ℕ → Bool → Generator
old_after g f triggered_below = updated g (gj_after (switched g)) (gk_after (switched g) f) (gq_after (switched g)) (old_gmode_after g triggered_below)

-- What a generator whose envelope is on brings. It is not in 100, so what it is told makes no difference.
unfoldable pub old_sounded : Generator → ℕ → Sounded
old_sounded g f = record { unit = old_after g f false; p = old_p g f; triggers = triggers (switched g) }

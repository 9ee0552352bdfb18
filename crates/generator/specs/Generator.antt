-- One generator: its registers, what its turn in a pass brings, and its registers afterwards (document 01, "The machine" and "A generator").
-- Assumes nothing.
use Rattle.std.specs.Prelude.{ℕ, ◌+◌, ◌/◌, ◌%◌, ◌^◌, ◌<◌, Bool, false, cond, ◌&&◌, ◌||◌, List, eqb, ℤ, get_or, set}
use Rattle.layout.specs.Layout.{GO, GJ, GK, GN, GM, GP, GQ, GL, GSUM, GFM, GMODE}
use Rattle.layout.specs.Widths.{go_bits, gj_bits, gk_bits, gn_bits, gm_bits, gp_bits, gq_bits, gl_bits, gsum_bits, gfm_bits, gmode_bits}
use Rattle.base_words.specs.Words.{low_bits, sum, sum_into, leaves}
use Rattle.layout_modes.specs.Modes.{oscillator_on, envelope_on, free, wait, running_c, with_run_mode}
use Rattle.generator_oscillator.specs.Oscillator.{wave_of}
use Rattle.generator_envelope.specs.Envelope.{overflows, decayed, level, enveloped}
use Rattle.generator.specs.declared.Generator.{Generator}
use Rattle.generator.specs.declared.Sounded.{Sounded}

-- The generator whose eleven words a part of the machine starts with, each register at its width.
unfoldable pub loaded : List ℕ → Generator
loaded m =
    record {
      go = get_or m GO 0 % 2 ^ go_bits;
      gj = get_or m GJ 0 % 2 ^ gj_bits;
      gk = get_or m GK 0 % 2 ^ gk_bits;
      gn = get_or m GN 0 % 2 ^ gn_bits;
      gm = get_or m GM 0 % 2 ^ gm_bits;
      gp = get_or m GP 0 % 2 ^ gp_bits;
      gq = get_or m GQ 0 % 2 ^ gq_bits;
      gl = get_or m GL 0 % 2 ^ gl_bits;
      gsum = get_or m GSUM 0 % 2 ^ gsum_bits;
      gfm = get_or m GFM 0 % 2 ^ gfm_bits;
      gmode = get_or m GMODE 0 % 2 ^ gmode_bits;
    }

-- A machine, or a part of it, with the registers that a turn can change written back at a place: GJ, GK, GQ and GMODE.
unfoldable pub stored : List ℕ → ℕ → Generator → List ℕ
stored m at g = set (set (set (set m (at + GJ) g.gj) (at + GK) g.gk) (at + GQ) g.gq) (at + GMODE) g.gmode

-- A generator with other GJ, GK, GQ and GMODE.
abbrev pub updated : Generator → ℕ → ℕ → ℕ → ℕ → Generator
updated g gj gk gq gmode =
    record {
      go = g.go;
      gj = gj;
      gk = gk;
      gn = g.gn;
      gm = g.gm;
      gp = g.gp;
      gq = gq;
      gl = g.gl;
      gsum = g.gsum;
      gfm = g.gfm;
      gmode = gmode;
    }

-- Every register is within its width.
pub record Ranged (g : Generator) : Type 0 where
  pub go-low : g.go < 2 ^ go_bits
  pub gj-low : g.gj < 2 ^ gj_bits
  pub gk-low : g.gk < 2 ^ gk_bits
  pub gn-low : g.gn < 2 ^ gn_bits
  pub gm-low : g.gm < 2 ^ gm_bits
  pub gp-low : g.gp < 2 ^ gp_bits
  pub gq-low : g.gq < 2 ^ gq_bits
  pub gl-low : g.gl < 2 ^ gl_bits
  pub gsum-low : g.gsum < 2 ^ gsum_bits
  pub gfm-low : g.gfm < 2 ^ gfm_bits
  pub gmode-low : g.gmode < 2 ^ gmode_bits

-- GMODE is run mode (4 bits), envelope mode (2), oscillator mode (4).
abbrev pub run_mode : Generator → ℕ
run_mode g = g.gmode / 2 ^ 6

abbrev pub envelope_mode : Generator → ℕ
envelope_mode g = g.gmode / 2 ^ 4 % 2 ^ 2

abbrev pub oscillator_mode : Generator → ℕ
oscillator_mode g = g.gmode % 2 ^ 4

-- Step 1. J: the high 20 bits of GJ plus F.
unfoldable pub j_of : Generator → ℕ → ℕ
j_of g f = sum 20 (g.gj / 2 ^ 8) f

-- Step 2. GJ afterwards: oscillator on, GO is added into it.
unfoldable pub gj_after : Generator → ℕ
gj_after g = cond (oscillator_on (run_mode g)) (sum_into 28 20 g.gj g.go) g.gj

-- Step 3. E: J in the oscillator mode 1000, else GK. K: the high 13 bits of E.
unfoldable pub k_of : Generator → ℕ → ℕ
k_of g f = cond (eqb (oscillator_mode g) 0b1000) (j_of g f) g.gk / 2 ^ 7

-- Step 4. GK afterwards: oscillator on, J is added into it.
unfoldable pub gk_after : Generator → ℕ → ℕ
gk_after g f = cond (oscillator_on (run_mode g)) (sum 20 g.gk (j_of g f)) g.gk

-- Whether the signed sum of step 1, or of step 4 where it is done, left its range.
unfoldable pub left_range : Generator → ℕ → Bool
left_range g f = leaves 20 (g.gj / 2 ^ 8) f || (oscillator_on (run_mode g) && leaves 20 g.gk (j_of g f))

-- Step 6. W.
unfoldable pub w_of : Generator → ℕ → ℤ
w_of g f = wave_of (oscillator_mode g) (k_of g f) g.gn g.gm (left_range g f)

-- Step 7. GQ afterwards: envelope on, GP is added into it.
unfoldable pub gq_after : Generator → ℕ
gq_after g = cond (envelope_on (run_mode g)) (decayed (free (run_mode g)) g.gq g.gp) g.gq

-- Step 8. V.
unfoldable pub v_of : Generator → ℕ
v_of g = level (envelope_mode g) g.gl g.gq

-- Step 9. P, as a word of 20 bits.
unfoldable pub p_of : Generator → ℕ → ℕ
p_of g f = low_bits 20 (enveloped (w_of g f) (v_of g))

-- A free overflow is a trigger.
unfoldable pub triggers : Generator → Bool
triggers g = free (run_mode g) && overflows g.gq g.gp

-- GMODE afterwards: 1101 goes to 1001 as it triggers; 1001 goes to 1101 where it is told that its lower neighbour was taken earlier in this pass and triggered.
unfoldable pub gmode_after : Generator → Bool → ℕ
gmode_after g triggered_below =
    cond (eqb (run_mode g) running_c && triggers g) (with_run_mode wait g.gmode)
    (cond (eqb (run_mode g) wait && triggered_below) (with_run_mode running_c g.gmode)
    g.gmode)

-- The generator after its turn.
unfoldable pub after : Generator → ℕ → Bool → Generator
after g f triggered_below = updated g (gj_after g) (gk_after g f) (gq_after g) (gmode_after g triggered_below)

-- What a generator whose envelope is on brings. It is not in 1001, so what it is told makes no difference.
unfoldable pub sounded_of : Generator → ℕ → Sounded
sounded_of g f = record { unit = after g f false; p = p_of g f; triggers = triggers g }

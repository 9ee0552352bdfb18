-- The run modes, by the 1978 text's names, and their switches (document 01: "The built run modes, and whether oscillator, envelope and adding are on").
-- Assumes nothing.
use Rattle.std.specs.Prelude.{ℕ, ◌+◌, ◌*◌, ◌%◌, ◌^◌, Bool, true, false, cond, ◌==◌, List, [], ◌∷◌}
use Rattle.base_lists.specs.Lists.{is_one_of, tabulate}
use Rattle.layout_modes.specs.declared.Switches.{Switches}
use Rattle.layout_modes.specs.declared.Output.{Output}
use Rattle.layout_modes.specs.declared.Output.TheVariants.{Silent, Adds, Replaces}

-- Inactive, and paused.
abbrev pub inactive : ℕ
inactive = 0b0000

abbrev pub pause : ℕ
pause = 0b0001

-- Running.
abbrev pub running_a : ℕ
running_a = 0b1111

abbrev pub running_b : ℕ
running_b = 0b1110

abbrev pub running_c : ℕ
running_c = 0b1101

-- Waiting to be triggered.
abbrev pub wait : ℕ
wait = 0b1001

-- Read data from the computer.
abbrev pub read_data : ℕ
read_data = 0b0111

-- Write data to the computer.
abbrev pub write_data : ℕ
write_data = 0b0011

-- Write data to a DAC.
abbrev pub write_dac : ℕ
write_dac = 0b0010

-- The built run modes.
abbrev pub built_runs : List ℕ
built_runs = inactive ∷ pause ∷ running_a ∷ running_b ∷ running_c ∷ wait ∷ read_data ∷ write_data ∷ write_dac ∷ []

-- Whether a run mode is built.
unfoldable pub built_run : ℕ → Bool
built_run r = is_one_of r built_runs

-- The built oscillator modes: document 01's, and 0100, the sum of cosines (document 02, Q-4).
abbrev pub built_oscillators : List ℕ
built_oscillators = 0b0000 ∷ 0b0001 ∷ 0b0010 ∷ 0b0011 ∷ 0b0100 ∷ 0b1000 ∷ []

-- Whether an oscillator mode is built.
unfoldable pub built_oscillator : ℕ → Bool
built_oscillator s = is_one_of s built_oscillators

-- Whether the oscillator is on.
unfoldable pub oscillator_on : ℕ → Bool
oscillator_on r = is_one_of r (running_a ∷ running_b ∷ running_c ∷ wait ∷ [])

-- Whether the envelope is on.
unfoldable pub envelope_on : ℕ → Bool
envelope_on r = is_one_of r (running_a ∷ running_b ∷ running_c ∷ read_data ∷ [])

-- Whether the envelope is free. One that is on and not free is sticky.
unfoldable pub free : ℕ → Bool
free r = is_one_of r (running_b ∷ running_c ∷ [])

-- Whether adding is on.
unfoldable pub adds : ℕ → Bool
adds r = is_one_of r (running_a ∷ running_b ∷ running_c ∷ [])

-- Whether the word is replaced.
unfoldable pub replaces : ℕ → Bool
replaces r = is_one_of r (read_data ∷ [])

-- A run mode's switches; it is silent where it neither adds nor replaces.
unfoldable pub switches_of : ℕ → Switches
switches_of r =
    record {
      oscillator = oscillator_on r;
      envelope = envelope_on r;
      free = free r;
      output = cond (adds r) Adds (cond (replaces r) Replaces Silent);
    }

-- Whether an output adds.
abbrev pub is_adds : Output → Bool
is_adds Silent = false
is_adds Adds = true
is_adds Replaces = false

-- The output that a number stands for: 1 where it adds, 2 where it replaces.
abbrev pub output_by : ℕ → Output
output_by n = cond (n == 1) Adds (cond (n == 2) Replaces Silent)

-- A run mode's switches as a row of four numbers, 1 for on and 0 for off, and last the number of the output.
unfoldable pub row : ℕ → List ℕ
row r = cond (oscillator_on r) 1 0 ∷ cond (envelope_on r) 1 0 ∷ cond (free r) 1 0 ∷ cond (adds r) 1 (cond (replaces r) 2 0) ∷ []

-- The rows of the 16 run modes.
unfoldable pub rows : List (List ℕ)
rows = tabulate row 0 16

-- GMODE with another run mode, its other bits kept.
abbrev pub with_run_mode : ℕ → ℕ → ℕ
with_run_mode r gmode = r * 2 ^ 6 + gmode % 2 ^ 6

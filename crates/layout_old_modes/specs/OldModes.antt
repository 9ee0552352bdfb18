-- The modes of a generator of the older text (document 02, Q-10): GMODE's three fields, the run mode in the 1978 coding, and which are built.
-- Assumes nothing.
use Rattle.std.specs.Prelude.{ℕ, ◌/◌, ◌%◌, ◌^◌, Bool, cond, ◌&&◌, ◌||◌, List, [], ◌∷◌, eqb, get_or}
use Rattle.base_lists.specs.Lists.{is_one_of}
use Rattle.layout_modes.specs.Modes.{inactive, pause, running_a, running_b, running_c, wait, read_data, write_data, write_dac}

-- GMODE has 8 bits: run mode (3 bits), envelope mode (2), oscillator mode (3).
abbrev pub old_gmode_bits : ℕ
old_gmode_bits = 8

abbrev pub old_run : ℕ → ℕ
old_run gmode = gmode / 2 ^ 5 % 2 ^ 3

abbrev pub old_envelope : ℕ → ℕ
old_envelope gmode = gmode / 2 ^ 3 % 2 ^ 2

abbrev pub old_oscillator : ℕ → ℕ
old_oscillator gmode = gmode % 2 ^ 3

-- GN is negative: the top one of its 11 bits is 1.
abbrev pub negative_gn : ℕ → Bool
negative_gn gn = eqb (gn / 2 ^ 10 % 2) 1

-- The run modes 000 to 111, each by the 1978 one that it is switched as. 111 sends: as written data where GN is negative, else to a DAC.
abbrev pub switched_as : ℕ → Bool → ℕ
switched_as r negative =
    get_or (inactive ∷ pause ∷ running_a ∷ running_b ∷ wait ∷ running_c ∷ read_data ∷ cond negative write_data write_dac ∷ []) r inactive

-- The run mode in the 1978 coding.
unfoldable pub old_run_mode : ℕ → ℕ → ℕ
old_run_mode gmode gn = switched_as (old_run gmode) (negative_gn gn)

-- The oscillator modes that are built in every run mode: square, sawtooth, pulse train, cosine of GK, cosine of J.
abbrev pub old_oscillators : List ℕ
old_oscillators = 0b001 ∷ 0b010 ∷ 0b011 ∷ 0b100 ∷ 0b101 ∷ []

-- Whether a GMODE's modes are built: all run modes and envelope modes are; the sum of cosines, 000, only in run mode 000.
unfoldable pub old_built_modes : ℕ → Bool
old_built_modes gmode = is_one_of (old_oscillator gmode) old_oscillators || (eqb (old_oscillator gmode) 0b000 && eqb (old_run gmode) 0b000)

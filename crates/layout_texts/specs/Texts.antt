-- What stands in a generator's words by the text that its machine follows.
-- Assumes nothing.
use Rattle.std.specs.Prelude.{ℕ, ◌+◌, ◌/◌, ◌%◌, ◌^◌, get_or}
use Rattle.layout.specs.Layout.{generator_at, GN}
use Rattle.layout.specs.Machine.{Machine, gmode_at, gfm_at}
use Rattle.layout_old_modes.specs.OldModes.{old_run_mode}
use Rattle.layout_texts.specs.declared.Text.{Text}
use Rattle.layout_texts.specs.declared.Text.TheVariants.{Of1978, Old}

-- The run mode of generator g, in the 1978 coding: the left 4 of GMODE's 10 bits; in the older text what the left 3 of its 8 bits are switched as.
abbrev pub run_mode_at : Text → Machine → ℕ → ℕ
run_mode_at Of1978 m g = gmode_at m g / 2 ^ 6
run_mode_at Old m g = old_run_mode (gmode_at m g) (get_or m (generator_at g + GN) 0)

-- GMODE's other modes, of the envelope and of the oscillator: its right 6 bits, in the older text 5.
abbrev pub other_modes_at : Text → Machine → ℕ → ℕ
other_modes_at Of1978 m g = gmode_at m g % 2 ^ 6
other_modes_at Old m g = gmode_at m g % 2 ^ 5

-- The DAC that generator g feeds where it feeds one: the low 4 bits of GO, its first word; in the older text those of GN.
abbrev pub dac_number_at : Text → Machine → ℕ → ℕ
dac_number_at Of1978 m g = get_or m (generator_at g) 0 % 2 ^ 4
dac_number_at Old m g = get_or m (generator_at g + GN) 0 % 2 ^ 4

-- What tells apart what generator g sends, to a DAC or as a written item: it sends F, the word at GFM; in the older text its own angle, so it is told by g itself.
abbrev pub source_at : Text → Machine → ℕ → ℕ
source_at Of1978 m g = gfm_at m g
source_at Old m g = g

-- How far below a generator its lower neighbour stands.
abbrev pub distance_of : Text → ℕ
distance_of Of1978 = 1
distance_of Old = 2

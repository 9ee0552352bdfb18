-- The shapes of the commands that load registers (the 1978 text, "Commands").
-- Assumes nothing.
use Rattle.std.specs.Prelude.{ℕ, ◌+◌, ◌-◌, ◌*◌, ◌/◌, ◌^◌, Bool, cond, get_or, set}
use Rattle.layout.specs.Layout.{dx_at}
use Rattle.layout.specs.Machine.{Machine}
use Rattle.layout.specs.Widths.{word_bits}
use Rattle.base_words.specs.Words.{extended}
use Rattle.command_fields.specs.Fields.{flag, data_of}

-- A word is loaded unless its disable bit is 1.
unfoldable pub loaded_unless : Bool → Machine → ℕ → ℕ → Machine
loaded_unless disabled m at v = cond disabled m (set m at v)

-- A word is cleared if its clear bit is 1.
unfoldable pub cleared_if : Bool → Machine → ℕ → Machine
cleared_if clear m at = cond clear (set m at 0) m

-- A register as wide as the data is loaded with the data.
unfoldable pub loaded_data : Machine → ℕ → ℕ → Machine
loaded_data m c at = set m at (data_of c)

-- A register of w bits is loaded right-adjusted, with sign extended.
unfoldable pub loaded_right : Machine → ℕ → ℕ → ℕ → Machine
loaded_right m c at w = set m at (extended word_bits w (data_of c))

-- A register of w bits is loaded left-adjusted: its low bits come from the left of DX, and DX is cleared.
unfoldable pub loaded_left : Machine → ℕ → ℕ → ℕ → Machine
loaded_left m c at w = set (set m at (data_of c * 2 ^ (w - word_bits) + get_or m dx_at 0 / 2 ^ (40 - w))) dx_at 0

-- A register of w bits is loaded left-adjusted if bit 27 is 1, else right-adjusted.
unfoldable pub loaded_adjusted : Machine → ℕ → ℕ → ℕ → Machine
loaded_adjusted m c at w = cond (flag 27 c) (loaded_left m c at w) (loaded_right m c at w)

-- Two registers are loaded, the first unless bit 4 is 1, the second unless bit 5 is.
unfoldable pub loaded_two : Machine → ℕ → ℕ → ℕ → ℕ → ℕ → Machine
loaded_two m c first v second w = loaded_unless (flag 5 c) (loaded_unless (flag 4 c) m first v) second w

-- Two registers are loaded so, and a third is cleared if bit 6 is 1.
unfoldable pub loaded_then_cleared : Machine → ℕ → ℕ → ℕ → ℕ → ℕ → ℕ → Machine
loaded_then_cleared m c first v second w third = cleared_if (flag 6 c) (loaded_two m c first v second w) third

-- The command that loads registers of a delay unit (the 1978 text, "Commands": DLY X, Y, Z).
-- Assumes nothing.
use Rattle.std.specs.Prelude.{ℕ, ◌+◌, ◌-◌, ◌^◌, Bool, true, false, cond, eqb, set}
use Rattle.layout.specs.Layout.{delay_at, delay_x, delay_y, delay_z, delay_p}
use Rattle.layout.specs.Machine.{Machine}
use Rattle.layout.specs.Widths.{delay_bits}
use Rattle.layout_codes.specs.BuiltCodes.{built_mode}
use Rattle.command_fields.specs.Fields.{field}

-- UU, the left 16 data bits, the right 4, and the unit.
abbrev pub uu_of : ℕ → ℕ
uu_of c = field 29 30 c

abbrev pub delay_data : ℕ → ℕ
delay_data c = field 4 19 c

abbrev pub delay_mode_data : ℕ → ℕ
delay_mode_data c = field 20 23 c

abbrev pub delay_number : ℕ → ℕ
delay_number c = field 31 35 c

-- Where word j of the addressed unit stands.
abbrev pub delay_word : ℕ → ℕ → ℕ
delay_word c j = delay_at (delay_number c) + j

-- DLY is built but with UU 11, and with UU 10 where the mode is not built.
unfoldable pub built_dly : ℕ → Bool
built_dly c =
    cond (eqb (uu_of c) 0b11) false
    (cond (eqb (uu_of c) 0b10) (built_mode (delay_mode_data c))
    true)

-- DLY: UU 00 loads X and clears Y, 01 loads Y with the one's complement of the data, 10 loads Z and P.
unfoldable pub loaded_dly : Machine → ℕ → Machine
loaded_dly m c =
    cond (eqb (uu_of c) 0b00) (set (set m (delay_word c delay_x) (delay_data c)) (delay_word c delay_y) 0)
    (cond (eqb (uu_of c) 0b01) (set m (delay_word c delay_y) (2 ^ delay_bits - 1 - delay_data c))
    (cond (eqb (uu_of c) 0b10) (set (set m (delay_word c delay_z) (delay_data c)) (delay_word c delay_p) (delay_mode_data c))
    m))

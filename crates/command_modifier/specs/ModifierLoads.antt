-- The commands that load registers of a modifier (the 1978 text, "Commands": MM to MRM, MIN).
-- Assumes nothing.
use Rattle.std.specs.Prelude.{ℕ, ◌+◌, ◌*◌, ◌/◌, ◌%◌, ◌^◌, cond, eqb, get_or, set}
use Rattle.layout.specs.Layout.{modifier_at, M0, M1, L0, L1, MIN, MRM, MSUM, MMODE}
use Rattle.layout.specs.Machine.{Machine}
use Rattle.layout.specs.Widths.{coefficient_bits}
use Rattle.command_fields.specs.Fields.{field, flag, code3, code4, code5, modifier_number}
use Rattle.command_load.specs.Loads.{loaded_unless, cleared_if, loaded_data, loaded_adjusted, loaded_then_cleared}

-- Where word j of the addressed modifier stands.
abbrev pub modifier_word : ℕ → ℕ → ℕ
modifier_word c j = modifier_at (modifier_number c) + j

-- M0 and M1: VV 00 M0 right-adjusted, 01 M1 right-adjusted, 10 M0 left-adjusted, 11 M1 left-adjusted.
unfoldable pub loaded_mm : Machine → ℕ → Machine
loaded_mm m c = loaded_adjusted m c (modifier_word c (cond (flag 28 c) M1 M0)) coefficient_bits

-- N 0 L0, 1 L1.
unfoldable pub loaded_ml : Machine → ℕ → Machine
loaded_ml m c = loaded_data m c (modifier_word c (cond (flag 28 c) L1 L0))

-- MMODE with its function (the left five bits) loaded unless M and its scales (AABB, the right four) unless H.
unfoldable pub mmode_by : ℕ → ℕ → ℕ
mmode_by mmode c = cond (flag 4 c) (mmode / 2 ^ 4) (field 8 12 c) * 2 ^ 4 + cond (flag 7 c) (mmode % 2 ^ 4) (field 13 16 c)

-- MMODE so, MSUM unless S; C clears L0.
unfoldable pub loaded_mmode : Machine → ℕ → Machine
loaded_mmode m c =
    let mmode = modifier_word c MMODE in
    cleared_if (flag 6 c) (loaded_unless (flag 5 c) (set m mmode (mmode_by (get_or m mmode 0) c)) (modifier_word c MSUM) (field 17 23 c)) (modifier_word c L0)

-- MRM unless R, MIN unless I; C clears L1.
unfoldable pub loaded_mrm : Machine → ℕ → Machine
loaded_mrm m c = loaded_then_cleared m c (modifier_word c MRM) (field 8 15 c) (modifier_word c MIN) (field 16 23 c) (modifier_word c L1)

-- The load of a modifier's registers by the code; other commands leave the machine.
unfoldable pub after_modifier_load : Machine → ℕ → Machine
after_modifier_load m c =
    cond (eqb (code3 c) 0b110) (loaded_mm m c)
    (cond (eqb (code4 c) 0b1110) (loaded_ml m c)
    (cond (eqb (code5 c) 0b11110) (loaded_mmode m c)
    (cond (eqb (code5 c) 0b11111) (loaded_mrm m c)
    m)))

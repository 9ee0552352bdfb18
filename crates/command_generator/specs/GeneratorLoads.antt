-- The commands that load registers of a generator (the 1978 text, "Commands": GQ to GO).
-- Assumes nothing.
use Rattle.std.specs.Prelude.{ℕ, ◌+◌, cond, eqb}
use Rattle.layout.specs.Layout.{generator_at, GO, GJ, GK, GN, GM, GP, GQ, GL, GSUM, GFM, GMODE}
use Rattle.layout.specs.Machine.{Machine}
use Rattle.layout.specs.Widths.{gj_bits, gq_bits}
use Rattle.command_fields.specs.Fields.{field, code3, code4, generator_number}
use Rattle.command_load.specs.Loads.{loaded_data, loaded_adjusted, loaded_two, loaded_then_cleared}

-- Where word j of the addressed generator stands.
abbrev pub generator_word : ℕ → ℕ → ℕ
generator_word c j = generator_at (generator_number c) + j

-- GQ: E 0 right-adjusted, 1 left-adjusted.
unfoldable pub loaded_gq : Machine → ℕ → Machine
loaded_gq m c = loaded_adjusted m c (generator_word c GQ) gq_bits

-- GJ: E 0 right-adjusted, 1 left-adjusted.
unfoldable pub loaded_gj : Machine → ℕ → Machine
loaded_gj m c = loaded_adjusted m c (generator_word c GJ) gj_bits

-- GP.
unfoldable pub loaded_gp : Machine → ℕ → Machine
loaded_gp m c = loaded_data m c (generator_word c GP)

-- GN unless N, GM unless M.
unfoldable pub loaded_gn : Machine → ℕ → Machine
loaded_gn m c = loaded_two m c (generator_word c GN) (field 9 19 c) (generator_word c GM) (field 20 23 c)

-- GL unless L, GSUM unless S.
unfoldable pub loaded_gl : Machine → ℕ → Machine
loaded_gl m c = loaded_two m c (generator_word c GL) (field 6 17 c) (generator_word c GSUM) (field 18 23 c)

-- GK.
unfoldable pub loaded_gk : Machine → ℕ → Machine
loaded_gk m c = loaded_data m c (generator_word c GK)

-- GMODE unless M, GFM unless F; C clears GK.
unfoldable pub loaded_gmode : Machine → ℕ → Machine
loaded_gmode m c = loaded_then_cleared m c (generator_word c GMODE) (field 7 16 c) (generator_word c GFM) (field 17 23 c) (generator_word c GK)

-- GO.
unfoldable pub loaded_go : Machine → ℕ → Machine
loaded_go m c = loaded_data m c (generator_word c GO)

-- The load of a generator's registers by the code; other commands leave the machine.
unfoldable pub after_generator_load : Machine → ℕ → Machine
after_generator_load m c =
    cond (eqb (code3 c) 0b001) (loaded_gq m c)
    (cond (eqb (code3 c) 0b010) (loaded_gj m c)
    (cond (eqb (code4 c) 0b0110) (loaded_gp m c)
    (cond (eqb (code4 c) 0b0111) (loaded_gn m c)
    (cond (eqb (code4 c) 0b1000) (loaded_gl m c)
    (cond (eqb (code4 c) 0b1001) (loaded_gk m c)
    (cond (eqb (code4 c) 0b1010) (loaded_gmode m c)
    (cond (eqb (code4 c) 0b1011) (loaded_go m c)
    m)))))))

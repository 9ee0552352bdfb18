-- The widths of the registers in bits (document 01, "The machine").
-- Assumes nothing.
use Rattle.std.specs.Prelude.{ℕ}

-- A generator's.
abbrev pub go_bits : ℕ
go_bits = 20

abbrev pub gj_bits : ℕ
gj_bits = 28

abbrev pub gk_bits : ℕ
gk_bits = 20

abbrev pub gn_bits : ℕ
gn_bits = 11

abbrev pub gm_bits : ℕ
gm_bits = 4

abbrev pub gp_bits : ℕ
gp_bits = 20

abbrev pub gq_bits : ℕ
gq_bits = 24

abbrev pub gl_bits : ℕ
gl_bits = 12

abbrev pub gsum_bits : ℕ
gsum_bits = 6

abbrev pub gfm_bits : ℕ
gfm_bits = 7

abbrev pub gmode_bits : ℕ
gmode_bits = 10

-- A modifier's.
abbrev pub coefficient_bits : ℕ
coefficient_bits = 30

abbrev pub latch_bits : ℕ
latch_bits = 20

abbrev pub address_bits : ℕ
address_bits = 8

abbrev pub msum_bits : ℕ
msum_bits = 7

abbrev pub mmode_bits : ℕ
mmode_bits = 9

-- A word of sum memory, of a DAC, of DX and of a read or written item.
abbrev pub word_bits : ℕ
word_bits = 20

-- The pass counter, and a pass that a Linger names.
abbrev pub counter_bits : ℕ
counter_bits = 32

abbrev pub linger_bits : ℕ
linger_bits = 20

-- A delay unit's X, Y and Z, and its mode P.
abbrev pub delay_bits : ℕ
delay_bits = 16

abbrev pub delay_mode_bits : ℕ
delay_mode_bits = 4

-- The fields of a 32-bit command (the 1978 text, "Commands"). Its bits are numbered there 4 to 35 from the left, so that bit b is bit 35-b of the word.
-- Assumes nothing.
use Rattle.std.specs.Prelude.{ℕ, ◌+◌, ◌-◌, ◌/◌, ◌%◌, ◌^◌, Bool, eqb}

-- The bits first to last of a command.
abbrev pub field : ℕ → ℕ → ℕ → ℕ
field first last c = c / 2 ^ (35 - last) % 2 ^ (last + 1 - first)

-- Whether bit b is 1.
abbrev pub flag : ℕ → ℕ → Bool
flag b c = eqb (field b b c) 1

-- The left 20 bits: the data.
abbrev pub data_of : ℕ → ℕ
data_of c = field 4 23 c

-- Codes have three, four or five bits.
abbrev pub code3 : ℕ → ℕ
code3 c = field 24 26 c

abbrev pub code4 : ℕ → ℕ
code4 c = field 24 27 c

abbrev pub code5 : ℕ → ℕ
code5 c = field 24 28 c

-- The generator and the modifier that a command addresses.
abbrev pub generator_number : ℕ → ℕ
generator_number c = field 28 35 c

abbrev pub modifier_number : ℕ → ℕ
modifier_number c = field 29 35 c

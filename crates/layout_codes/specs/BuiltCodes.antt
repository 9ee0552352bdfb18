-- Which functions of a modifier and which modes of a delay unit are built (document 01, "A modifier"; document 02, Q-1 and Q-10; the 1978 text, the older text).
-- Assumes nothing.
use Rattle.std.specs.Prelude.{ℕ, Bool, List, [], ◌∷◌}
use Rattle.base_lists.specs.Lists.{is_one_of}

-- The functions that are built: those of the 1978 text's list.
unfoldable pub built_functions : List ℕ
built_functions = 0b00000 ∷ 0b00010 ∷ 0b00011 ∷ 0b00100 ∷ 0b00110 ∷ 0b00111 ∷ 0b01000 ∷ 0b01001 ∷ 0b01011 ∷ 0b01100 ∷ 0b01101 ∷ 0b01111 ∷ 0b10000 ∷ 0b10001 ∷ 0b10100 ∷ 0b10110 ∷ 0b11000 ∷ 0b11001 ∷ 0b11010 ∷ 0b11011 ∷ 0b11100 ∷ 0b11101 ∷ []

-- Whether a function is built.
unfoldable pub built_function : ℕ → Bool
built_function f = is_one_of f built_functions

-- The functions of the older text that are built. 10001, which has no step there, and 10100, its delay unit, are not.
unfoldable pub old_built_functions : List ℕ
old_built_functions = 0b00000 ∷ 0b00001 ∷ 0b00010 ∷ 0b00011 ∷ 0b00100 ∷ 0b00101 ∷ 0b00110 ∷ 0b00111 ∷ 0b01000 ∷ 0b01001 ∷ 0b01010 ∷ 0b01100 ∷ 0b01101 ∷ 0b01110 ∷ 0b10000 ∷ []

-- Whether a function of the older text is built.
unfoldable pub old_built_function : ℕ → Bool
old_built_function f = is_one_of f old_built_functions

-- The modes P of a delay unit.
abbrev pub inactive : ℕ
inactive = 0b0000

abbrev pub line : ℕ
line = 0b1000

abbrev pub table : ℕ
table = 0b1010

abbrev pub rounded_table : ℕ
rounded_table = 0b1011

-- Whether a mode is built.
unfoldable pub built_mode : ℕ → Bool
built_mode p = is_one_of p (inactive ∷ line ∷ table ∷ rounded_table ∷ [])

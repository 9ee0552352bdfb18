-- Numbers as text, and the lines that are printed (document 01, "Bench file").
-- Assumes nothing.
use Rattle.std.specs.Prelude.{ℕ, zero, suc, ◌+◌, ◌-◌, ◌/◌, ◌%◌, ◌^◌, cond, List, [], ◌∷◌, ◌++◌, ltb}
use Prim.Native.Char.{code}
use Rattle.file_bytes.specs.Bytes.{ascii}

-- The digits of n, most significant first, without leading zeros; k digits are enough.
unfoldable pub digits : ℕ → ℕ → List ℕ
digits zero n = []
digits (suc k) n = cond (ltb n 10) ((code "0" + n) ∷ []) (digits k (n / 10) ++ ((code "0" + n % 10) ∷ []))

-- A number of 32 bits in decimal: ten digits are enough.
abbrev pub decimal : ℕ → List ℕ
decimal n = digits 10 n

-- A name and a number in decimal.
unfoldable pub named : List ℕ → ℕ → List ℕ
named name n = name ++ decimal n

abbrev pub minus : List ℕ
minus = ascii "-"

-- A word of 20 bits in two's complement as a signed number in decimal.
unfoldable pub signed_decimal : ℕ → List ℕ
signed_decimal n = cond (ltb n (2 ^ 19)) (decimal n) (minus ++ decimal (2 ^ 20 - n))

-- The texts round the numbers of a line.
abbrev pub pass_text : List ℕ
pass_text = ascii "pass="

abbrev pub left_text : List ℕ
left_text = ascii " left="

abbrev pub right_text : List ℕ
right_text = ascii " right="

abbrev pub refused_text : List ℕ
refused_text = ascii "refused="

abbrev pub order_refused_text : List ℕ
order_refused_text = ascii "order-refused="

abbrev pub newline : List ℕ
newline = ascii "\n"

-- The line of a pass: the counter, all its 32 bits, then the words of DAC 0 and DAC 1 as signed numbers.
unfoldable pub pass_line : ℕ → ℕ → ℕ → List ℕ
pass_line counter left right = named pass_text counter ++ (left_text ++ (signed_decimal left ++ (right_text ++ (signed_decimal right ++ newline))))

-- The line of a refusal.
unfoldable pub refusal_line : ℕ → List ℕ
refusal_line n = named refused_text n ++ newline

-- The line of a text that is no order file.
unfoldable pub order_refusal_line : ℕ → List ℕ
order_refusal_line n = named order_refused_text n ++ newline

-- The length of a buffer for one line, which has at most 51 bytes.
abbrev pub line_bytes : ℕ
line_bytes = 64

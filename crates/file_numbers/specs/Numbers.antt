-- The numbers of a bench file (document 01, "Bench file").
-- Assumes nothing.
use Rattle.std.specs.Prelude.{ℕ, ◌+◌, ◌-◌, ◌*◌, ◌^◌, Bool, true, cond, Option, Some, None, ◌&&◌, ◌||◌, List, [], ◌∷◌, eqb, leb, ltb, length, get_or}
use Prim.Native.Char.{code}

-- The value of a digit, 0 to 9 and then A to F; 16 for any other byte.
unfoldable pub digit_value : ℕ → ℕ
digit_value b =
    cond (leb (code "0") b && leb b (code "9")) (b - code "0")
    (cond (leb (code "A") b && leb b (code "F")) (b - code "A" + 10) 16)

-- Whether all bytes are digits of a base.
unfoldable pub all_digits : ℕ → List ℕ → Bool
all_digits base [] = true
all_digits base (b ∷ bytes) = ltb (digit_value b) base && all_digits base bytes

-- The number that digits go on to write after n.
unfoldable pub written_after : ℕ → ℕ → List ℕ → ℕ
written_after base n [] = n
written_after base n (b ∷ bytes) = written_after base (n * base + digit_value b) bytes

-- The number, below a limit, that a text of digits writes in a base.
unfoldable pub number_in : ℕ → ℕ → List ℕ → Option ℕ
number_in base limit bytes =
    cond (all_digits base bytes && ltb (written_after base 0 bytes) limit) (Some (written_after base 0 bytes)) None

-- Whether a text of two digits or more begins with 0.
unfoldable pub leading_zero : List ℕ → Bool
leading_zero bytes = eqb (get_or bytes 0 0) (code "0") && ltb 1 (length bytes)

-- A decimal number below a limit, of at least one digit and without leading zeros.
unfoldable pub decimal_in : ℕ → List ℕ → Option ℕ
decimal_in limit bytes = cond (eqb (length bytes) 0 || leading_zero bytes) None (number_in 10 limit bytes)

-- Eight hexadecimal capitals.
unfoldable pub hexadecimal_in : List ℕ → Option ℕ
hexadecimal_in bytes = cond (eqb (length bytes) 8) (number_in 16 (2 ^ 32) bytes) None

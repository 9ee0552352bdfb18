-- Text as a list of bytes: the bytes of a quoted text, a text's start, and the first of a byte.
-- Assumes nothing.
use Rattle.std.specs.Prelude.{ℕ, suc, Bool, true, false, cond, ◌&&◌, List, [], ◌∷◌, eqb}
use Prim.Native.Char.{code}
use Prim.Native.String.{String}
use Prim.Native.String as string

-- The bytes of a text in ASCII: each character's code.
abbrev pub ascii : String → List ℕ
ascii string.[] = []
ascii (string.◌∷◌ c bytes) = code c ∷ ascii bytes

-- Whether a text starts with another.
unfoldable pub starts_with : List ℕ → List ℕ → Bool
starts_with bytes [] = true
starts_with [] (p ∷ start) = false
starts_with (b ∷ bytes) (p ∷ start) = eqb b p && starts_with bytes start

-- How many bytes stand before the first byte x; all of them where there is none.
unfoldable pub bytes_before : ℕ → List ℕ → ℕ
bytes_before x [] = 0
bytes_before x (b ∷ bytes) = cond (eqb b x) 0 (suc (bytes_before x bytes))

-- Words of 32 bits in a run of bytes, four to a word, the lowest first.
-- Assumes nothing.
use Rattle.std.specs.Prelude.{ℕ, ◌+◌, ◌*◌, ◌/◌, ◌%◌, ◌^◌, List, [], ◌∷◌, get_or}

-- Word i.
unfoldable pub word_at : List ℕ → ℕ → ℕ
word_at b i =
    get_or b (4 * i) 0 + 2 ^ 8 * get_or b (4 * i + 1) 0 + 2 ^ 16 * get_or b (4 * i + 2) 0 + 2 ^ 24 * get_or b (4 * i + 3) 0

-- The four bytes of a word.
unfoldable pub bytes_of : ℕ → List ℕ
bytes_of x = x % 2 ^ 8 ∷ x / 2 ^ 8 % 2 ^ 8 ∷ x / 2 ^ 16 % 2 ^ 8 ∷ x / 2 ^ 24 ∷ []

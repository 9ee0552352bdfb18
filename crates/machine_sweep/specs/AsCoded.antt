-- Columns of a run of words, as the code goes over them: word j of every unit, the units being so many words long.
-- Assumes nothing.
use Rattle.std.specs.Prelude.{ℕ, zero, suc, ◌+◌, ◌*◌, ◌/◌, ◌%◌, ◌^◌, Bool, List, eqb, ltb, length, get_or}
use Rattle.std.specs.Int.Bits.{bit_or}
use Rattle.base_lists.specs.Lists.{all_below, tabulate}

-- The or of word j of n units, each `step` words long, the first at a place.
unfoldable pub column : List ℕ → ℕ → ℕ → ℕ → ℕ → ℕ
column m at step j zero = 0
column m at step j (suc n) = bit_or (column m at step j n) (get_or m (at + step * n + j) 0)

-- The test p passes at word j of n units.
unfoldable pub every_word : (ℕ → Bool) → List ℕ → ℕ → ℕ → ℕ → ℕ → Bool
every_word p m at step j n = all_below (λ k. p (get_or m (at + step * k + j) 0)) n

-- Eight rows from a place on, a word for each limit, or-ed: below the limits at the first n places.
unfoldable pub rows_below : List ℕ → List ℕ → ℕ → ℕ → Bool
rows_below limits m at n = all_below (λ i. ltb (column m at (length limits) i 8) (get_or limits i 0)) n

-- So many times eight rows, one after the other from a place on.
unfoldable pub swept : List ℕ → List ℕ → ℕ → ℕ → Bool
swept limits m at times = all_below (λ k. rows_below limits m (at + 8 * length limits * k) (length limits)) times

-- Bit k of a mask is 1, and the list of this for the numbers below n.
unfoldable pub flag_of : ℕ → ℕ → Bool
flag_of mask k = eqb (mask / 2 ^ k % 2) 1

unfoldable pub flags_of : ℕ → ℕ → List Bool
flags_of mask n = tabulate (flag_of mask) 0 n

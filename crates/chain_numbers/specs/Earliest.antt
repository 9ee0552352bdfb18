-- The earliest number of each entry of a chain (document 02, Q-11).
-- Assumes nothing.
use Rattle.std.specs.Prelude.{ℕ, zero, suc, ◌+◌, max, cond, List, get_or}
use Rattle.chain_entries.specs.Entries.{Chain, is_early, start_of, names_in}

-- How many modifiers there are: their numbers are those below.
abbrev pub modifiers : ℕ
modifiers = 128

-- How far below entry i an entry that it names must stand: 4 for an early read, 1 for a late one.
unfoldable pub lag : List ℕ → ℕ → ℕ
lag entries i = cond (is_early entries i) 4 1

-- The highest of a number and of what f gives for the n names from a place on.
unfoldable pub highest : (ℕ → ℕ) → List ℕ → ℕ → ℕ → ℕ → ℕ
highest f names at zero least = least
highest f names at (suc n) least = max (highest f names at n least) (f (get_or names (at + n) 0))

-- The number of entry i, found from those of the entries that it waits on: one more than that of the entry before it, or the lag above that of an entry that it names, whichever is highest.
-- The first entry waits on none and has 0. Every entry waits on earlier ones alone: k falls at each call, and i calls are enough for entry i.
unfoldable pub found : Chain → ℕ → ℕ → ℕ
found c zero i = 0
found c (suc k) zero = 0
found c (suc k) (suc i) =
    highest (λ j. found c k j + lag c.entries (suc i)) c.names (start_of c.entries (suc i)) (names_in c.entries (suc i)) (found c k i + 1)

unfoldable pub earliest : Chain → ℕ → ℕ
earliest c i = found c i i

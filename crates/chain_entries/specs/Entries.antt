-- The list of entries for a chain of modifiers, and the test that it fits (document 02, Q-11).
-- Assumes nothing.
use Rattle.std.specs.Prelude.{ℕ, zero, suc, ◌+◌, ◌-◌, ◌*◌, ◌/◌, ◌%◌, Bool, ◌&&◌, List, eqb, ltb, leb, length, get_or}
use Rattle.base_lists.specs.Lists.{all_below}

-- A chain as it is handed in, two runs of words. Each entry has two words of the first: 1 where its read is early and 0 where it is late, and where its names end in the second.
pub record Chain : Type 0 where
  pub entries : List ℕ
  pub names : List ℕ

-- How many entries there are.
abbrev pub size : Chain → ℕ
size c = length c.entries / 2

-- The word of entry i that says how it reads, and whether that is early.
abbrev pub read_of : List ℕ → ℕ → ℕ
read_of entries i = get_or entries (2 * i) 0

abbrev pub is_early : List ℕ → ℕ → Bool
is_early entries i = eqb (read_of entries i) 1

-- Where the names of entry i end, where they begin (where those of the entry before it end), and how many it has.
abbrev pub end_of : List ℕ → ℕ → ℕ
end_of entries i = get_or entries (2 * i + 1) 0

unfoldable pub start_of : List ℕ → ℕ → ℕ
start_of entries zero = 0
start_of entries (suc i) = end_of entries i

abbrev pub names_in : List ℕ → ℕ → ℕ
names_in entries i = end_of entries i - start_of entries i

-- The entry that entry i names at place k among its names.
abbrev pub name_of : Chain → ℕ → ℕ → ℕ
name_of c i k = get_or c.names (start_of c.entries i + k) 0

-- Each of n names from a place on is below i.
abbrev pub names_below : List ℕ → ℕ → ℕ → ℕ → Bool
names_below names at n i = all_below (λ k. ltb (get_or names (at + k) 0) i) n

-- Entry i fits: it says early or late, its names stand in the run of names, and each is an earlier entry.
unfoldable pub entry_good : Chain → ℕ → Bool
entry_good c i =
    leb (read_of c.entries i) 1
    && (leb (start_of c.entries i) (end_of c.entries i)
    && (leb (end_of c.entries i) (length c.names)
    && names_below c.names (start_of c.entries i) (names_in c.entries i) i))

-- A chain fits: two words for each entry, each entry fits, and every name is an entry's.
unfoldable pub chain_good : Chain → Bool
chain_good c = eqb (length c.entries % 2) 0 && (all_below (entry_good c) (size c) && eqb (start_of c.entries (size c)) (length c.names))

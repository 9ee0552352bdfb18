-- What it is that a chain fits (document 02, Q-11).
-- Assumes nothing.
use Rattle.std.specs.Prelude.{ℕ, ◌%◌, ◌≤◌, ◌<◌, ◌≡◌, length}
use Rattle.chain_entries.specs.Entries.{Chain, size, read_of, end_of, start_of, names_in, name_of}

-- There are two words for each entry, and the first says early or late. Its names begin where those of the entry before it end, don't end before that, and stand in the run of names.
-- No entry names itself, a later one or a place outside the list. Every name is an entry's.
pub record Fits (c : Chain) : Type 0 where
  pub even : length c.entries % 2 ≡ 0
  pub said : (i : ℕ) → i < size c → read_of c.entries i ≤ 1
  pub rises : (i : ℕ) → i < size c → start_of c.entries i ≤ end_of c.entries i
  pub inside : (i : ℕ) → i < size c → end_of c.entries i ≤ length c.names
  pub earlier : (i k : ℕ) → i < size c → k < names_in c.entries i → name_of c i k < i
  pub last : start_of c.entries (size c) ≡ length c.names

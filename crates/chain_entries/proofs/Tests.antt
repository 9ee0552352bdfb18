-- Whether an entry fits, and the chain, as the code asks it: one test after the other.
-- Assumes nothing.
use mathlib.Core.Path.{◌≡◌, refl}
use mathlib.Core.Bool.{Bool, true, false, ◌&&◌}
use Prim.Native.Nat.{ℕ, ◌-◌, ◌%◌, ◌≤◌, ◌<◌}
use borrow.Author.Tests.{le-leb, lt-leb}
use lib.Dec.{eqb}
use lib.ListN.{length}
use Rattle.base_lists.specs.Lists.{all_below}
use Rattle.chain_entries.specs.Entries.{Chain, size, read_of, end_of, start_of, names_below, entry_good, chain_good}

module _ (c : Chain) (i : ℕ) where
  pub entry-unsaid : 1 < read_of c.entries i → false ≡ entry_good c i
  unfolding entry_good
  entry-unsaid h = rw (lt-leb (read_of c.entries i) 1 h)

  module _ {from to : ℕ} (f : from ≡ start_of c.entries i) (t : to ≡ end_of c.entries i) (said : read_of c.entries i ≤ 1) where
    pub entry-falls : to < from → false ≡ entry_good c i
    unfolding entry_good
    entry-falls h = rw (le-leb (read_of c.entries i) 1 said, ← f, ← t, lt-leb from to h)

    pub entry_past : from ≤ to → length c.names < to → false ≡ entry_good c i
    unfolding entry_good
    entry_past h l = rw (le-leb (read_of c.entries i) 1 said, ← f, ← t, le-leb from to h, lt-leb to (length c.names) l)

    pub entry-names : from ≤ to → to ≤ length c.names → {r : Bool} → r ≡ names_below c.names from (to - from) i → r ≡ entry_good c i
    unfolding entry_good
    entry-names h l e = rw (le-leb (read_of c.entries i) 1 said, ← f, ← t, le-leb from to h, le-leb to (length c.names) l) e

-- A chain by its three tests.
pub chain_by : (c : Chain) {every : Bool} {last : ℕ} → every ≡ all_below (entry_good c) (size c) → last ≡ start_of c.entries (size c)
    → ((eqb (length c.entries % 2) 0 && every) && eqb last (length c.names)) ≡ chain_good c
unfolding chain_good
chain_by c e f = rw (e, f) (and-on (eqb (length c.entries % 2) 0) _ _)
  where
    and-on : (x y z : Bool) → ((x && y) && z) ≡ (x && (y && z))
    and-on true y z = refl
    and-on false y z = refl

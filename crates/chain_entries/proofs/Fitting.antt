-- The test passes just where a chain fits.
-- Assumes nothing.
use mathlib.Core.Path.{◌≡◌, refl, sym}
use mathlib.Core.Bool.{Bool, true, false, ◌&&◌, true≢false}
use Prim.Native.Nat.{ℕ, ◌%◌, ◌<◌}
use borrow.Author.Tests.{eqb-true, eq-eqb, leb-true, le-leb, ltb-true, lt-ltb}
use lib.Dec.{eqb, ltb, leb}
use lib.ListN.{length}
use Rattle.base_lists.specs.Lists.{all_below}
use Rattle.base_lists.proofs.Below.{and_first, and_second, and_both, below_at, below-from}
use Rattle.chain_entries.specs.Entries.{Chain, size, read_of, end_of, start_of, names_in, name_of, names_below, entry_good, chain_good}
use Rattle.chain_entries.specs.Fits.{Fits}

four-parts : (a b c d : Bool) → (a && (b && (c && d))) ≡ true → (a ≡ true) × (b ≡ true) × (c ≡ true) × (d ≡ true)
four-parts true true true true e = (refl, refl, refl, refl)
four-parts true true true false e = absurd (true≢false (sym e))
four-parts true true false d e = absurd (true≢false (sym e))
four-parts true false c d e = absurd (true≢false (sym e))
four-parts false b c d e = absurd (true≢false (sym e))

-- What the test lets through.
pub good-chain : (c : Chain) → chain_good c ≡ true → Fits c
unfolding chain_good entry_good
good-chain c e =
    record {
      even = eqb-true (length c.entries % 2) 0 (and_first paired (every && whole) e);
      last = eqb-true (start_of c.entries (size c)) (length c.names) (and_second every whole (and_second paired (every && whole) e));
      said = λ i h. leb-true (read_of c.entries i) 1 (parts i h).0;
      rises = λ i h. leb-true (start_of c.entries i) (end_of c.entries i) (parts i h).1;
      inside = λ i h. leb-true (end_of c.entries i) (length c.names) (parts i h).2;
      earlier = λ i k h l. ltb-true (name_of c i k) i (below_at (λ k. ltb (name_of c i k) i) (names_in c.entries i) (parts i h).3 k l);
    }
  where
    paired : Bool
    paired = eqb (length c.entries % 2) 0

    every : Bool
    every = all_below (entry_good c) (size c)

    whole : Bool
    whole = eqb (start_of c.entries (size c)) (length c.names)

    parts : (i : ℕ) → i < size c
        → (leb (read_of c.entries i) 1 ≡ true) × (leb (start_of c.entries i) (end_of c.entries i) ≡ true) × (leb (end_of c.entries i) (length c.names) ≡ true)
        × (names_below c.names (start_of c.entries i) (names_in c.entries i) i ≡ true)
    parts i h = four-parts _ _ _ _ (below_at (entry_good c) (size c) (and_first every whole (and_second paired (every && whole) e)) i h)

-- A chain that fits is let through.
pub fits-chain : (c : Chain) → Fits c → chain_good c ≡ true
unfolding chain_good entry_good
fits-chain c f =
    and_both (eqb (length c.entries % 2) 0) (all_below (entry_good c) (size c) && eqb (start_of c.entries (size c)) (length c.names))
    (eq-eqb (length c.entries % 2) 0 f.even)
    (and_both (all_below (entry_good c) (size c)) (eqb (start_of c.entries (size c)) (length c.names))
    (below-from (entry_good c) (size c) entry) (eq-eqb (start_of c.entries (size c)) (length c.names) f.last))
  where
    entry : (i : ℕ) → i < size c
        → (leb (read_of c.entries i) 1
        && (leb (start_of c.entries i) (end_of c.entries i)
        && (leb (end_of c.entries i) (length c.names)
        && names_below c.names (start_of c.entries i) (names_in c.entries i) i)))
        ≡ true
    entry i h =
        rw (
          le-leb (read_of c.entries i) 1 (f.said i h),
          le-leb (start_of c.entries i) (end_of c.entries i) (f.rises i h),
          le-leb (end_of c.entries i) (length c.names) (f.inside i h),
        )
        (below-from (λ k. ltb (name_of c i k) i) (names_in c.entries i) (λ k l. lt-ltb (name_of c i k) i (f.earlier i k h l)))

-- What one entry more of an order changes in arrays that hold places and last entries: the entry itself, and nothing elsewhere.
-- Assumes nothing.
use mathlib.Core.Path.{◌≡◌, refl, sym, ◌∙◌}
use mathlib.Core.Bool.{Bool, true, false, cond, ◌||◌, ◌&&◌}
use mathlib.Core.List.{List, [], ◌∷◌, map}
use Prim.Native.Nat.{ℕ, zero, suc, ◌+◌, ◌≤◌, ◌<◌}
use native.Mathlib.Omega.{arith}
use native.Mathlib.Nat.{not-suc-le-zero, le_of_suc-le-suc}
use native.Mathlib.Numerals.{add-one}
use borrow.Author.Tests.{eqb-true, eqb-false}
use lib.Dec.{eqb}
use lib.ListN.{length, get_or, set, drop, length-set, drop_of_length-le}
use lib.Seq.{drop-cons, get_or-set_same, get_or-set_other}
use Rattle.base_lists.specs.Lists.{count}
use Rattle.base_sequences.specs.Sequences.{keep, some, last_of, place_of, latest}
use Rattle.base_sequences.proofs.Entries.{keep-count}
use Rattle.base_sequences.proofs.Places.{place-absent, place-holds, place-of-entry}
use Rattle.base_sequences.proofs.Orders.{there-once}
use Rattle.base_sequences.proofs.Loops.{kept_next}
use Rattle.layout.specs.Machine.{Order}
use Rattle.pass_order.specs.Order.{IsOrder}

-- A number that is set where a test passes.
pub set-where : (b : Bool) (held : List ℕ) (d v k : ℕ) → d < length held
    → get_or (cond b (set held d v) held) k 0 ≡ cond (b && eqb d k) v (get_or held k 0)
set-where true held d v k h = go (eqb d k) refl
  where
    go : (c : Bool) → eqb d k ≡ c → get_or (set held d v) k 0 ≡ cond c v (get_or held k 0)
    go true e = rw (← (eqb-true d k e)) (get_or-set_same held d v 0 h)
    go false e = get_or-set_other held d k v 0 (λ q. eqb-false d k e (sym q))
set-where false held d v k h = refl

pub length-set-where : (b : Bool) (held : List ℕ) (d v : ℕ) → length (cond b (set held d v) held) ≡ length held
length-set-where true held d v = length-set held d v
length-set-where false held d v = refl

-- What is mapped at a place inside a list.
pub map-inside : (f : ℕ → ℕ) (xs : List ℕ) (n : ℕ) → n < length xs → get_or (map f xs) n 0 ≡ f (get_or xs n 0)
map-inside f [] n h = absurd (not-suc-le-zero h)
map-inside f (x ∷ xs) zero h = refl
map-inside f (x ∷ xs) (suc n) h = map-inside f xs n (le_of_suc-le-suc h)

-- One entry more of a list whose last entry that passes is held, and the end.
module _ (p : ℕ → Bool) (f : ℕ → ℕ) (order : Order) where
  pub latest-next : (i v : ℕ) → i < length order
      → latest p f (drop (i + 1) order) (cond (p (get_or order i 0)) (f (get_or order i 0)) v) ≡ latest p f (drop i order) v
  unfolding latest some last_of
  latest-next i v h =
      rw (add-one i, drop-cons order i 0 h) (go (some p (drop (suc i) order)) (p (get_or order i 0)))
    where
      go : (a b : Bool)
          → cond a (f (last_of p (drop (suc i) order))) (cond b (f (get_or order i 0)) v)
          ≡ cond (b || a) (f (cond a (last_of p (drop (suc i) order)) (cond b (get_or order i 0) 0))) v
      go true true = refl
      go true false = refl
      go false true = refl
      go false false = refl

  pub latest-end : (i v : ℕ) → length order ≤ i → latest p f (drop i order) v ≡ v
  unfolding latest some last_of
  latest-end i v h = rw (drop_of_length-le order {i = i} h)

-- A place inside a list holds its number.
pub place_here : (g : ℕ) (order : Order) → place_of g order < length order → get_or order (place_of g order) 0 ≡ g
place_here g order h = go (count g order) refl
  where
    go : (n : ℕ) → count g order ≡ n → get_or order (place_of g order) 0 ≡ g
    go zero e = absurd (omega (arith, place-absent g order e))
    go (suc n) e = place-holds g order (omega arith)

module _ (t : ℕ) (order : Order) (o : IsOrder t order) (i : ℕ) (inside : i < length order) where
  -- The place of the entry at i is i.
  pub entry_place : place_of (get_or order i 0) order ≡ i
  entry_place = place-of-entry order i inside (there-once t order o.once o.below (get_or order i 0))

  -- Its place among the entries that pass a test is n, where n of them stand before it.
  pub kept-place : (p : ℕ → Bool) (n : ℕ) → keep p (drop i order) ≡ drop n (keep p order) → p (get_or order i 0) ≡ true
      → place_of (get_or order i 0) (keep p order) ≡ n
  kept-place p n e h =
      let q = kept_next p order i n e inside h in
      rw (← q.here) (place-of-entry (keep p order) n q.inside (rw q.here once))
    where
      once : count (get_or order i 0) (keep p order) ≤ 1
      once = rw (keep-count p (get_or order i 0) order, h) (there-once t order o.once o.below (get_or order i 0))

  -- One place more.
  pub placed-next : (at : List ℕ) → get_or order i 0 < length at → ((g : ℕ) → place_of g order < i → get_or at g 0 ≡ place_of g order)
      → (g : ℕ) → place_of g order < i + 1 → get_or (set at (get_or order i 0) i) g 0 ≡ place_of g order
  placed-next at low p g h = go (eqb g (get_or order i 0)) refl
    where
      go : (b : Bool) → eqb g (get_or order i 0) ≡ b → get_or (set at (get_or order i 0) i) g 0 ≡ place_of g order
      go true e = rw (eqb-true g (get_or order i 0) e, get_or-set_same at (get_or order i 0) i 0 low) (sym entry_place)
      go false e =
          rw (get_or-set_other at (get_or order i 0) g i 0 (eqb-false g (get_or order i 0) e))
          (p g (omega (arith, other)))
        where
          other : place_of g order ≡ i → ⊥
          other q = eqb-false g (get_or order i 0) e (sym (place_here g order (omega arith)) ∙ rw q)

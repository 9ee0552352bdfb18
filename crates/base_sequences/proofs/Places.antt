-- The places of numbers in a list, and which of two stands before the other.
-- Assumes nothing.
use mathlib.Core.Path.{◌≡◌, refl, ap, ◌∙◌}
use mathlib.Core.Logic.{◌≢◌}
use mathlib.Core.Bool.{Bool, true, false, cond}
use mathlib.Core.List.{List, [], ◌∷◌, ◌++◌}
use Prim.Native.Nat.{ℕ, zero, suc, ◌+◌, ◌≤◌, ◌<◌}
use native.Mathlib.Omega.{arith}
use native.Mathlib.Nat.{not-suc-le-zero, le_of_suc-le-suc, add-zero}
use borrow.Author.Tests.{eqb-true, eqb-false, eq-eqb, ne_eqb, lt-ltb, le-ltb}
use lib.Dec.{eqb}
use lib.ListN.{length, get_or}
use Rattle.base_lists.specs.Lists.{count}
use Rattle.base_lists.proofs.Counts.{count-first, count_next}
use Rattle.base_sequences.specs.Sequences.{keep, place_of, before}
use Rattle.base_sequences.proofs.Entries.{count-append, count-entry, keep-first, keep_append, keep-count}

-- A number stands inside a list where it is there, and its place holds it; one that is not there has the place past the end.
pub place_inside : (g : ℕ) (xs : List ℕ) → 1 ≤ count g xs → place_of g xs < length xs
unfolding place_of count
place_inside g [] h = absurd (not-suc-le-zero h)
place_inside g (x ∷ xs) h = go (eqb x g) h (place_inside g xs)
  where
    go : (b : Bool) → 1 ≤ cond b 1 0 + count g xs → (1 ≤ count g xs → place_of g xs < length xs) → cond b 0 (suc (place_of g xs)) < suc (length xs)
    go true l ih = omega arith
    go false l ih = omega (arith, ih (omega arith))

pub place-absent : (g : ℕ) (xs : List ℕ) → count g xs ≡ 0 → place_of g xs ≡ length xs
unfolding place_of count
place-absent g [] h = refl
place-absent g (x ∷ xs) h = go (eqb x g) h (place-absent g xs)
  where
    go : (b : Bool) → cond b 1 0 + count g xs ≡ 0 → (count g xs ≡ 0 → place_of g xs ≡ length xs) → cond b 0 (suc (place_of g xs)) ≡ suc (length xs)
    go true l ih = absurd (omega arith)
    go false l ih = omega (arith, ih (omega arith))

pub place-holds : (g : ℕ) (xs : List ℕ) → 1 ≤ count g xs → get_or xs (place_of g xs) 0 ≡ g
unfolding place_of count
place-holds g [] h = absurd (not-suc-le-zero h)
place-holds g (x ∷ xs) h = go (eqb x g) refl h (place-holds g xs)
  where
    go : (b : Bool) → eqb x g ≡ b → 1 ≤ cond b 1 0 + count g xs → (1 ≤ count g xs → get_or xs (place_of g xs) 0 ≡ g)
        → get_or (x ∷ xs) (cond b 0 (suc (place_of g xs))) 0 ≡ g
    go true q l ih = eqb-true x g q
    go false q l ih = ih (omega arith)

-- A number that is there is below a bound that all entries are below.
pub there-within : (t g : ℕ) (xs : List ℕ) → ((i : ℕ) → i < length xs → get_or xs i 0 < t) → 1 ≤ count g xs → g < t
there-within t g xs below h = rw (← (place-holds g xs h)) (below (place_of g xs) (place_inside g xs h))

-- An entry that stands there once has the place at which it stands.
pub place-of-entry : (xs : List ℕ) (i : ℕ) → i < length xs → count (get_or xs i 0) xs ≤ 1 → place_of (get_or xs i 0) xs ≡ i
unfolding place_of count
place-of-entry [] i h o = absurd (not-suc-le-zero h)
place-of-entry (x ∷ xs) zero h o = rw (eq-eqb x x refl)
place-of-entry (x ∷ xs) (suc i) h o = go (eqb x (get_or xs i 0)) o (place-of-entry xs i (le_of_suc-le-suc h))
  where
    go : (b : Bool) → cond b 1 0 + count (get_or xs i 0) xs ≤ 1 → (count (get_or xs i 0) xs ≤ 1 → place_of (get_or xs i 0) xs ≡ i)
        → cond b 0 (suc (place_of (get_or xs i 0) xs)) ≡ suc i
    go true l ih = absurd (omega (arith, count-entry xs i (le_of_suc-le-suc h)))
    go false l ih = omega (arith, ih (omega arith))

-- Of two lists joined.
pub place-past : (g : ℕ) (a b : List ℕ) → count g a ≡ 0 → place_of g (a ++ b) ≡ length a + place_of g b
unfolding place_of count
place-past g [] b h = omega arith
place-past g (x ∷ a) b h = go (eqb x g) h (place-past g a b)
  where
    go : (v : Bool) → cond v 1 0 + count g a ≡ 0 → (count g a ≡ 0 → place_of g (a ++ b) ≡ length a + place_of g b)
        → cond v 0 (suc (place_of g (a ++ b))) ≡ suc (length a) + place_of g b
    go true k ih = absurd (omega arith)
    go false k ih = omega (arith, ih (omega arith))

pub place-in-front : (g : ℕ) (a b : List ℕ) → 1 ≤ count g a → place_of g (a ++ b) ≡ place_of g a
unfolding place_of count
place-in-front g [] b h = absurd (not-suc-le-zero h)
place-in-front g (x ∷ a) b h = go (eqb x g) h (place-in-front g a b)
  where
    go : (v : Bool) → 1 ≤ cond v 1 0 + count g a → (1 ≤ count g a → place_of g (a ++ b) ≡ place_of g a)
        → cond v 0 (suc (place_of g (a ++ b))) ≡ cond v 0 (suc (place_of g a))
    go true k ih = refl
    go false k ih = omega (arith, ih (omega arith))

pub place-first : (g : ℕ) (b : List ℕ) → place_of g (g ∷ b) ≡ 0
unfolding place_of
place-first g b = rw (eq-eqb g g refl)

pub place-next : (g x : ℕ) (b : List ℕ) → x ≢ g → place_of g (x ∷ b) ≡ suc (place_of g b)
unfolding place_of
place-next g x b n = rw (ne_eqb x g n)

-- Before: as a fact of places, and none stands before itself.
pub before-from : (g h : ℕ) (xs : List ℕ) → place_of g xs < place_of h xs → before g h xs ≡ true
unfolding before
before-from g h xs l = lt-ltb (place_of g xs) (place_of h xs) l

pub not-before-from : (g h : ℕ) (xs : List ℕ) → place_of h xs ≤ place_of g xs → before g h xs ≡ false
unfolding before
not-before-from g h xs l = le-ltb (place_of g xs) (place_of h xs) l

pub before-itself : (g : ℕ) (xs : List ℕ) → before g g xs ≡ false
before-itself g xs = not-before-from g g xs (omega arith)

-- A list that is cut at x, which stands there once.
module _ (a : List ℕ) (x : ℕ) (b : List ℕ) (cut : count x a ≡ 0) where
  pub place-cut : place_of x (a ++ (x ∷ b)) ≡ length a
  place-cut = place-past x a (x ∷ b) cut ∙ rw (place-first x b) (add-zero (length a))

  -- A number in front of it stands before it, and no other.
  pub before-cut : (g : ℕ) → 1 ≤ count g a → before g x (a ++ (x ∷ b)) ≡ true
  before-cut g h = before-from g x (a ++ (x ∷ b)) (rw (place-cut, place-in-front g a (x ∷ b) h) (place_inside g a h))

  pub not-before-cut : (g : ℕ) → count g a ≡ 0 → before g x (a ++ (x ∷ b)) ≡ false
  not-before-cut g h = not-before-from g x (a ++ (x ∷ b)) (omega (arith, place-cut, place-past g a (x ∷ b) h))

  -- It stands before what is behind it, where that stands there once, and before nothing in front.
  pub after_front : (g : ℕ) → 1 ≤ count g a → before x g (a ++ (x ∷ b)) ≡ false
  after_front g h = not-before-from x g (a ++ (x ∷ b)) (omega (arith, place-cut, place-in-front g a (x ∷ b) h, place_inside g a h))

  pub after-behind : (g : ℕ) → 1 ≤ count g b → count g (a ++ (x ∷ b)) ≤ 1 → before x g (a ++ (x ∷ b)) ≡ true
  after-behind g h once = go (eqb x g) refl
    where
      parts : count g a + count g (x ∷ b) ≤ 1
      parts = rw (← (count-append g a (x ∷ b))) once

      go : (v : Bool) → eqb x g ≡ v → before x g (a ++ (x ∷ b)) ≡ true
      go true e =
          let q = eqb-true x g e in
          let n = count-first x b in
          absurd (omega (arith, parts, ap (λ (k : ℕ). count k (x ∷ b)) q, ap (λ (k : ℕ). count k b) q))
      go false e =
          let d = eqb-false x g e in
          let c = count_next g x b d in
          before-from x g (a ++ (x ∷ b)) (omega (arith, place-cut, place-past g a (x ∷ b) (omega (arith, parts)), place-next g x b d))

  -- Its place among those that pass a test.
  pub place_kept : (p : ℕ → Bool) → p x ≡ true → place_of x (keep p (a ++ (x ∷ b))) ≡ length (keep p a)
  place_kept p e =
      ap (place_of x) (keep_append p a (x ∷ b) ∙ ap (λ (l : List ℕ). keep p a ++ l) (keep-first p x b e))
      ∙ place-past x (keep p a) (x ∷ keep p b) (keep-count p x a ∙ rw e cut)
      ∙ rw (place-first x (keep p b)) (add-zero (length (keep p a)))

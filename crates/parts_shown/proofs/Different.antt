-- The first place at which two lists differ, word by word, and what it tells of them.
-- Assumes nothing.
use mathlib.Core.Path.{◌≡◌, refl}
use mathlib.Core.Logic.{◌≢◌}
use mathlib.Core.List.{List, [], ◌∷◌}
use mathlib.Core.Bool.{Bool, true, false, cond}
use Prim.Native.Nat.{ℕ, zero, suc, ◌+◌, ◌≤◌, ◌<◌}
use native.Mathlib.Omega.{arith}
use native.Mathlib.Numerals.{add-one}
use borrow.Author.Tests.{eq-eqb, ne_eqb, eqb-true, eqb-false}
use lib.Dec.{eqb}
use lib.ListN.{length, get_or, drop, drop_of_length-le}
use lib.Seq.{drop-cons}
use Rattle.parts_shown.specs.Shown.{first_different, FirstDifferent}

-- What is left of a list is its next word and what is left then.
next : (xs : List ℕ) (i : ℕ) → i < length xs → drop i xs ≡ get_or xs i 0 ∷ drop (i + 1) xs
next xs i h = rw (add-one, drop-cons xs i 0)

-- What is left of two lists from a place on: nothing of one, different words, or the same word.
module _ (xs ys : List ℕ) (i : ℕ) where
  pub none_left : length xs ≤ i → first_different (drop i xs) (drop i ys) ≡ 0
  unfolding first_different
  none_left h = rw (drop_of_length-le xs h)

  module _ (h : i < length xs) where
    pub shorter : length ys ≤ i → first_different (drop i xs) (drop i ys) ≡ 0
    unfolding first_different
    shorter l = rw (next xs i h, drop_of_length-le ys l)

    module _ (l : i < length ys) where
      pub other_word : get_or xs i 0 ≢ get_or ys i 0 → first_different (drop i xs) (drop i ys) ≡ 0
      unfolding first_different
      other_word n = rw (next xs i h, next ys i l, ne_eqb (get_or xs i 0) (get_or ys i 0) n)

      pub same_word : get_or xs i 0 ≡ get_or ys i 0 → first_different (drop i xs) (drop i ys) ≡ first_different (drop (i + 1) xs) (drop (i + 1) ys) + 1
      unfolding first_different
      same_word e = rw (next xs i h, next ys i l, eq-eqb (get_or xs i 0) (get_or ys i 0) e) (omega arith)

-- A place that both lists have is one at which they differ for the first time.
pub is-first : (xs ys : List ℕ) → length xs ≡ length ys → first_different xs ys < length xs → FirstDifferent xs ys (first_different xs ys)
unfolding first_different
is-first [] ys e h = absurd (omega arith)
is-first (x ∷ xs) [] e h = absurd (omega arith)
is-first (x ∷ xs) (y ∷ ys) e h = go (eqb x y) refl h (λ l. is-first xs ys (omega arith) l)
  where
    earlier : x ≡ y → ((j : ℕ) → j < first_different xs ys → get_or xs j 0 ≡ get_or ys j 0) → (j : ℕ) → j < suc (first_different xs ys) → get_or (x ∷ xs) j 0 ≡ get_or (y ∷ ys) j 0
    earlier q f zero k = q
    earlier q f (suc j) k = f j (omega arith)

    go : (b : Bool) → eqb x y ≡ b → cond b (suc (first_different xs ys)) 0 < suc (length xs) → (first_different xs ys < length xs → FirstDifferent xs ys (first_different xs ys))
        → FirstDifferent (x ∷ xs) (y ∷ ys) (cond b (suc (first_different xs ys)) 0)
    go true q l later =
        let r = later (omega arith) in
        record { in-first = l; in-second = omega (arith, r.in-second); before = earlier (eqb-true x y q) r.before; there = r.there }
    go false q l later = record { in-first = l; in-second = omega arith; before = λ j k. absurd (omega arith); there = eqb-false x y q }

-- Lists of a length that differ at no place of theirs are the same.
pub no_place : (xs ys : List ℕ) → length xs ≡ length ys → length xs ≤ first_different xs ys → xs ≡ ys
unfolding first_different
no_place [] [] e h = refl
no_place [] (y ∷ ys) e h = absurd (omega arith)
no_place (x ∷ xs) [] e h = absurd (omega arith)
no_place (x ∷ xs) (y ∷ ys) e h = go (eqb x y) refl h (λ l. no_place xs ys (omega arith) l)
  where
    go : (b : Bool) → eqb x y ≡ b → suc (length xs) ≤ cond b (suc (first_different xs ys)) 0 → (length xs ≤ first_different xs ys → xs ≡ ys) → ◌≡◌ {A = List ℕ} (x ∷ xs) (y ∷ ys)
    go true q l later = rw (eqb-true x y q, later (omega arith))
    go false q l later = absurd (omega arith)

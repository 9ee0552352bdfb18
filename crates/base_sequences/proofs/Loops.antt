-- What a loop over a list's entries, or over the numbers below a bound, learns at each step: of the entries kept, of the last that passes,
-- and of the lowest number at which a test fails.
-- Assumes nothing.
use mathlib.Core.Path.{◌≡◌, refl, sym, ◌∙◌}
use mathlib.Core.Bool.{Bool, true, false}
use mathlib.Core.List.{List, [], ◌∷◌}
use Prim.Native.Nat.{ℕ, zero, suc, ◌+◌, ◌≤◌, ◌<◌}
use native.Mathlib.Omega.{arith}
use native.Mathlib.Nat.{not-suc-le-zero}
use native.Mathlib.Numerals.{add-one}
use borrow.Author.Tests.{ltb-true, ltb-false, lt-ltb, le-ltb}
use lib.Dec.{ltb}
use lib.ListN.{length, get_or, drop, drop_of_length-le}
use lib.Seq.{drop-cons}
use Rattle.base_sequences.specs.Sequences.{keep, first_failing}

-- The test passes at each number below 0; at each below i, and at i; it fails at i.
pub failing-zero : (p : ℕ → Bool) → first_failing p 0 ≡ 0
unfolding first_failing
failing-zero p = refl

pub failing-next : (p : ℕ → Bool) (i : ℕ) → first_failing p i ≡ i → p i ≡ true → first_failing p (i + 1) ≡ i + 1
unfolding first_failing
failing-next p i e h = rw (add-one i, e, le-ltb i i (omega arith), h)

failing-stays : (p : ℕ → Bool) (n : ℕ) → first_failing p n < n → first_failing p (suc n) ≡ first_failing p n
unfolding first_failing
failing-stays p n h = rw (lt-ltb (first_failing p n) n h)

failing-first : (p : ℕ → Bool) (i : ℕ) → first_failing p i ≡ i → p i ≡ false → first_failing p (suc i) ≡ i
unfolding first_failing
failing-first p i e h = rw (e, le-ltb i i (omega arith), h)

pub failing-here : (p : ℕ → Bool) (i n : ℕ) → i < n → first_failing p i ≡ i → p i ≡ false → first_failing p n ≡ i
failing-here p i zero l e h = absurd (not-suc-le-zero l)
failing-here p i (suc n) l e h = go (ltb i n) refl (λ k. failing-here p i n k e h)
  where
    go : (b : Bool) → ltb i n ≡ b → (i < n → first_failing p n ≡ i) → first_failing p (suc n) ≡ i
    go true q f =
        let k = ltb-true i n q in
        failing-stays p n (rw (f k) k) ∙ f k
    go false q f = let k : n ≡ i = omega (arith, ltb-false i n q) in rw k (failing-first p i e h)

-- Two tests that are equal below n.
pub failing-same : (p q : ℕ → Bool) (n : ℕ) → ((k : ℕ) → k < n → p k ≡ q k) → first_failing p n ≡ first_failing q n
unfolding first_failing
failing-same p q zero h = refl
failing-same p q (suc n) h = rw (h n (omega arith), failing-same p q n (λ k l. h k (omega arith)))

-- A part of a list from a place on, that begins with x.
pub record Next (xs : List ℕ) (n x : ℕ) (rest : List ℕ) : Type 0 where
  pub inside : n < length xs
  pub here : get_or xs n 0 ≡ x
  pub left : rest ≡ drop (suc n) xs

drop-next : (xs : List ℕ) (n x : ℕ) (rest : List ℕ) → x ∷ rest ≡ drop n xs → Next xs n x rest
drop-next [] zero x rest e = absurd (never e)
  where
    never : x ∷ rest ≡ [] → ⊥
    never q = let z : ◌≡◌ {A = ℕ} 0 1 = cc in omega arith
drop-next [] (suc n) x rest e = absurd (never e)
  where
    never : x ∷ rest ≡ [] → ⊥
    never q = let z : ◌≡◌ {A = ℕ} 0 1 = cc in omega arith
drop-next (y ∷ ys) zero x rest e = record { inside = omega arith; here = cc; left = cc }
drop-next (y ∷ ys) (suc n) x rest e =
    let q = drop-next ys n x rest e in
    record { inside = omega (arith, q.inside); here = q.here; left = q.left }

drop-end : (xs : List ℕ) (n : ℕ) → [] ≡ drop n xs → length xs ≤ n
drop-end [] n e = omega arith
drop-end (x ∷ xs) zero e = absurd (never e)
  where
    never : [] ≡ x ∷ xs → ⊥
    never q = let z : ◌≡◌ {A = ℕ} 0 1 = cc in omega arith
drop-end (x ∷ xs) (suc n) e = omega (arith, drop-end xs n e)

-- The entries from i on that pass, as the part of all that pass from n on: where the entry at i passes, where it doesn't, and at the end.
module _ (p : ℕ → Bool) (xs : List ℕ) (i n : ℕ) (e : keep p (drop i xs) ≡ drop n (keep p xs)) where
  pub kept_next : i < length xs → p (get_or xs i 0) ≡ true → Next (keep p xs) n (get_or xs i 0) (keep p (drop (i + 1) xs))
  unfolding keep
  kept_next h t = rw (add-one i) (drop-next (keep p xs) n (get_or xs i 0) (keep p (drop (suc i) xs)) (sym first ∙ e))
    where
      first : keep p (drop i xs) ≡ get_or xs i 0 ∷ keep p (drop (suc i) xs)
      first = rw (drop-cons xs i 0 h, t)

  pub kept-past : i < length xs → p (get_or xs i 0) ≡ false → keep p (drop (i + 1) xs) ≡ drop n (keep p xs)
  unfolding keep
  kept-past h t = sym first ∙ e
    where
      first : keep p (drop i xs) ≡ keep p (drop (i + 1) xs)
      first = rw (add-one i, drop-cons xs i 0 h, t)

  pub kept-end : length xs ≤ i → length (keep p xs) ≤ n
  unfolding keep
  kept-end h = drop-end (keep p xs) n (sym none ∙ e)
    where
      none : keep p (drop i xs) ≡ []
      none = rw (drop_of_length-le xs {i = i} h)

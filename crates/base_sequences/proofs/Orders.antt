-- A list in which each number below t stands once, and no other: what passes a test in it, and how many do.
-- Assumes nothing.
use mathlib.Core.Path.{◌≡◌, refl, sym, ap, ◌∙◌}
use mathlib.Core.Bool.{Bool, true, false, cond, true≢false}
use mathlib.Core.List.{List, [], ◌∷◌}
use Prim.Native.Nat.{ℕ, zero, suc, ◌+◌, ◌≤◌, ◌<◌}
use native.Mathlib.Omega.{arith}
use native.Mathlib.Nat.{not-suc-le-zero}
use borrow.Author.Tests.{eqb-true, eqb-false}
use lib.Dec.{eqb}
use lib.ListN.{length, get_or}
use Rattle.base_lists.specs.Lists.{count, count_below}
use Rattle.base_lists.proofs.Counts.{count-first, count_next}
use Rattle.base_sequences.specs.Sequences.{keep, some, last_of}
use Rattle.base_sequences.proofs.Entries.{count-entry, keep-count, keep_same, some-entry, none-entry, last-passes, last_entry}
use Rattle.base_sequences.proofs.Places.{there-within}

-- How many of the numbers below n that pass a test stand in a list, each as often as it stands there.
abbrev kept : (ℕ → Bool) → ℕ → List ℕ → ℕ
kept p zero xs = 0
kept p (suc n) xs = cond (p n) (count n xs) 0 + kept p n xs

kept-nil : (p : ℕ → Bool) (n : ℕ) → kept p n [] ≡ 0
unfolding count
kept-nil p zero = refl
kept-nil p (suc n) = go (p n) (kept-nil p n)
  where
    go : (b : Bool) → kept p n [] ≡ 0 → cond b 0 0 + kept p n [] ≡ 0
    go true ih = omega arith
    go false ih = omega arith

kept_next : (p : ℕ → Bool) (n x : ℕ) (xs : List ℕ) → n ≤ x → kept p n (x ∷ xs) ≡ kept p n xs
kept_next p zero x xs h = refl
kept_next p (suc n) x xs h = rw (count_next n x xs (λ e. omega arith), kept_next p n x xs (omega arith))

kept-first : (p : ℕ → Bool) (n x : ℕ) (xs : List ℕ) → x < n → kept p n (x ∷ xs) ≡ cond (p x) 1 0 + kept p n xs
kept-first p zero x xs h = absurd (not-suc-le-zero h)
kept-first p (suc n) x xs h = go (eqb x n) refl (λ l. kept-first p n x xs l)
  where
    one : (b : Bool) (k : ℕ) → cond b (suc k) 0 ≡ cond b 1 0 + cond b k 0
    one true k = omega arith
    one false k = refl

    go : (v : Bool) → eqb x n ≡ v → (x < n → kept p n (x ∷ xs) ≡ cond (p x) 1 0 + kept p n xs)
        → cond (p n) (count n (x ∷ xs)) 0 + kept p n (x ∷ xs) ≡ cond (p x) 1 0 + (cond (p n) (count n xs) 0 + kept p n xs)
    go true e ih =
        let q = eqb-true x n e in
        rw (q, count-first n xs, kept_next p n n xs (omega arith), one (p n) (count n xs)) (omega arith)
    go false e ih =
        let d = eqb-false x n e in
        rw (count_next n x xs d, ih (omega (arith, d))) (omega arith)

-- The entries that pass a test, counted number by number.
length-kept : (p : ℕ → Bool) (t : ℕ) (xs : List ℕ) → ((i : ℕ) → i < length xs → get_or xs i 0 < t) → length (keep p xs) ≡ kept p t xs
unfolding keep
length-kept p t [] h = sym (kept-nil p t)
length-kept p t (x ∷ xs) h =
    go (p x) (length-kept p t xs (λ i l. h (suc i) (omega arith))) ∙ sym (kept-first p t x xs (h 0 (omega arith)))
  where
    go : (b : Bool) → length (keep p xs) ≡ kept p t xs → length (cond b (x ∷ keep p xs) (keep p xs)) ≡ cond b 1 0 + kept p t xs
    go true ih = omega arith
    go false ih = omega arith

kept-once : (p : ℕ → Bool) (t : ℕ) (xs : List ℕ) → ((k : ℕ) → k < t → count k xs ≡ 1) → kept p t xs ≡ count_below p t
unfolding count_below
kept-once p zero xs h = refl
kept-once p (suc t) xs h = rw (h t (omega arith), kept-once p t xs (λ k l. h k (omega arith)))

-- A test that every number passes keeps all, and counts all.
keep_all : (xs : List ℕ) → keep (λ k. true) xs ≡ xs
unfolding keep
keep_all [] = refl
keep_all (x ∷ xs) = ap (λ (l : List ℕ). x ∷ l) (keep_all xs)

all-count : (t : ℕ) → count_below (λ k. true) t ≡ t
unfolding count_below
all-count zero = refl
all-count (suc t) = omega (arith, all-count t)

module _ (t : ℕ) (order : List ℕ) (once : (k : ℕ) → k < t → count k order ≡ 1) (below : (i : ℕ) → i < length order → get_or order i 0 < t) where
  -- What is there is below t, and nothing is there twice.
  pub there-below : (g : ℕ) → 1 ≤ count g order → g < t
  there-below g h = there-within t g order below h

  pub there-once : (g : ℕ) → count g order ≤ 1
  there-once g = go (count g order) refl
    where
      go : (n : ℕ) → count g order ≡ n → n ≤ 1
      go zero e = omega arith
      go (suc n) e = omega (arith, once g (there-below g (omega arith)))

  -- A number below t that passes, and the last entry that passes.
  pub some-from : (p : ℕ → Bool) (k : ℕ) → k < t → p k ≡ true → some p order ≡ true
  some-from p k h e = some-entry p k order (omega (arith, once k h)) e

  pub none-at : (p : ℕ → Bool) (k : ℕ) → k < t → some p order ≡ false → p k ≡ false
  none-at p k h e = none-entry p k order (omega (arith, once k h)) e

  pub last-below : (p : ℕ → Bool) → some p order ≡ true → last_of p order < t
  last-below p e = there-below (last_of p order) (last_entry p order e)

  -- None passes where none does below t.
  pub none_from : (p : ℕ → Bool) → ((k : ℕ) → k < t → p k ≡ false) → some p order ≡ false
  none_from p f = go (some p order) refl
    where
      go : (b : Bool) → some p order ≡ b → b ≡ false
      go true e = absurd (true≢false (sym (last-passes p order e) ∙ f (last_of p order) (last-below p e)))
      go false e = refl

  -- Two tests that are equal below t.
  pub keep-order-same : (p q : ℕ → Bool) → ((k : ℕ) → k < t → p k ≡ q k) → keep p order ≡ keep q order
  keep-order-same p q f = keep_same p q order (λ i l. f (get_or order i 0) (below i l))

  -- What is kept is below t.
  pub keep-below : (p : ℕ → Bool) (i : ℕ) → i < length (keep p order) → get_or (keep p order) i 0 < t
  keep-below p i h =
      let x = get_or (keep p order) i 0 in
      there-below x (there (p x) (count x order) (rw (keep-count p x order) at (count-entry (keep p order) i h)))
    where
      there : (b : Bool) (n : ℕ) → 1 ≤ cond b n 0 → 1 ≤ n
      there true n l = l
      there false n l = absurd (not-suc-le-zero l)

  -- As many are kept as pass below t.
  pub length-keep : (p : ℕ → Bool) → length (keep p order) ≡ count_below p t
  length-keep p = length-kept p t order below ∙ kept-once p t order once

  -- There are t entries.
  pub order-length : length order ≡ t
  order-length = sym (ap (λ (l : List ℕ). length l) (keep_all order)) ∙ length-keep (λ k. true) ∙ all-count t

-- Two such lists: one has an entry that passes where the other has.
pub some-orders : (t : ℕ) (o₁ o₂ : List ℕ) → ((k : ℕ) → k < t → count k o₁ ≡ 1) → ((k : ℕ) → k < t → count k o₂ ≡ 1)
    → ((i : ℕ) → i < length o₁ → get_or o₁ i 0 < t) → ((i : ℕ) → i < length o₂ → get_or o₂ i 0 < t) → (p : ℕ → Bool) → some p o₁ ≡ some p o₂
some-orders t o₁ o₂ c₁ c₂ b₁ b₂ p = go (some p o₁) refl
  where
    go : (b : Bool) → some p o₁ ≡ b → b ≡ some p o₂
    go true e = sym (some-from t o₂ c₂ b₂ p (last_of p o₁) (last-below t o₁ c₁ b₁ p e) (last-passes p o₁ e))
    go false e = sym (none_from t o₂ c₂ b₂ p (λ k h. none-at t o₁ c₁ b₁ p k h e))

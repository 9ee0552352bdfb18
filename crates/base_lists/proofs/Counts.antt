-- A list of t entries that has each number below t once has only numbers below t, and the other way: the counts of the numbers
-- below t and the entries from t on add up to the length.
-- Assumes nothing.
use mathlib.Core.Path.{◌≡◌, refl}
use mathlib.Core.Bool.{Bool, true, false, cond}
use mathlib.Core.Logic.{◌≢◌, ⊎_elim}
use mathlib.Core.List.{List, [], ◌∷◌}
use Prim.Native.Nat.{ℕ, zero, suc, ◌+◌, ◌≤◌, ◌<◌}
use native.Mathlib.Omega.{arith}
use native.Mathlib.Nat.{not-suc-le-zero, le_of_suc-le-suc, eq-or-lt_of_le, add_comm}
use native.Mathlib.Numerals.{add-one}
use borrow.Author.Tests.{eqb-true, eqb-false, eq-eqb, ne_eqb, ltb-true, ltb-false, lt-ltb, le-ltb}
use lib.Dec.{eqb, ltb}
use lib.ListN.{length, get_or}
use Rattle.base_lists.specs.Lists.{count, count_below}

-- A number counts once more where it is the first entry.
pub count-first : (g : ℕ) (xs : List ℕ) → count g (g ∷ xs) ≡ suc (count g xs)
unfolding count
count-first g xs = rw (eq-eqb g g refl) (omega arith)

pub count_next : (g x : ℕ) (xs : List ℕ) → x ≢ g → count g (x ∷ xs) ≡ count g xs
unfolding count
count_next g x xs n = rw (ne_eqb x g n) (omega arith)

-- How often the numbers below n stand in a list, all together.
abbrev counted : ℕ → List ℕ → ℕ
counted zero xs = 0
counted (suc n) xs = count n xs + counted n xs

-- How many entries of a list are n or more.
abbrev above : ℕ → List ℕ → ℕ
above n [] = 0
above n (x ∷ xs) = cond (ltb x n) 0 1 + above n xs

counted-nil : (n : ℕ) → counted n [] ≡ 0
unfolding count
counted-nil zero = refl
counted-nil (suc n) = omega (arith, counted-nil n)

below_next : (x n : ℕ) (b c : Bool) → eqb x n ≡ b → ltb x n ≡ c → ◌≡◌ {A = ℕ} (cond (ltb x (suc n)) 1 0) (cond b 1 0 + cond c 1 0)
below_next x n true true e f = absurd (omega (arith, eqb-true x n e, ltb-true x n f))
below_next x n true false e f = rw (lt-ltb x (suc n) (omega (arith, eqb-true x n e)))
below_next x n false true e f = rw (lt-ltb x (suc n) (omega (arith, ltb-true x n f)))
below_next x n false false e f = rw (le-ltb x (suc n) (omega (arith, ltb-false x n f, eqb-false x n e)))

counted-cons : (n x : ℕ) (xs : List ℕ) → counted n (x ∷ xs) ≡ cond (ltb x n) 1 0 + counted n xs
unfolding count
counted-cons zero x xs = rw (le-ltb x 0 (omega arith))
counted-cons (suc n) x xs = omega (arith, counted-cons n x xs, below_next x n (eqb x n) (ltb x n) refl refl)

one_of : (b : Bool) → ◌≡◌ {A = ℕ} (cond b 1 0 + cond b 0 1) 1
one_of true = refl
one_of false = refl

sum-all : (n : ℕ) (xs : List ℕ) → counted n xs + above n xs ≡ length xs
sum-all n [] = omega (arith, counted-nil n)
sum-all n (x ∷ xs) = omega (arith, sum-all n xs, counted-cons n x xs, one_of (ltb x n))

-- Each number below n once, and none above one: the counts of n numbers add up to n.
all_once : (n : ℕ) (xs : List ℕ) → ((k : ℕ) → k < n → count k xs ≡ 1) → counted n xs ≡ n
all_once zero xs h = refl
all_once (suc n) xs h = omega (arith, h n (omega arith), all_once n xs (λ k l. h k (omega arith)))

none-twice : (n : ℕ) (xs : List ℕ) → ((k : ℕ) → k < n → count k xs ≤ 1) → counted n xs ≤ n
none-twice zero xs h = omega arith
none-twice (suc n) xs h = omega (arith, h n (omega arith), none-twice n xs (λ k l. h k (omega arith)))

-- Where no count is above one and the counts of n numbers add up to n, each count is one.
each-one : (n : ℕ) (xs : List ℕ) → ((k : ℕ) → k < n → count k xs ≤ 1) → counted n xs ≡ n → (k : ℕ) → k < n → count k xs ≡ 1
each-one zero xs h e k l = absurd (not-suc-le-zero l)
each-one (suc n) xs h e k l =
    let low : counted n xs ≤ n = none-twice n xs (λ j i. h j (omega arith)) in
    let one : count n xs ≤ 1 = h n (omega arith) in
    ⊎_elim
    (λ (q : k ≡ n). rw q (omega arith))
    (λ i. each-one n xs (λ j i. h j (omega arith)) (omega arith) k i)
    (eq-or-lt_of_le (le_of_suc-le-suc l))

is_below : (x n : ℕ) (b : Bool) → ltb x n ≡ b → ◌≡◌ {A = ℕ} (cond b 0 1) 0 → x < n
is_below x n true e f = ltb-true x n e
is_below x n false e f = absurd (omega arith)

none_above : (n : ℕ) (xs : List ℕ) → above n xs ≡ 0 → (i : ℕ) → i < length xs → get_or xs i 0 < n
none_above n [] e i h = absurd (not-suc-le-zero h)
none_above n (x ∷ xs) e zero h = is_below x n (ltb x n) refl (omega arith)
none_above n (x ∷ xs) e (suc i) h = none_above n xs (omega arith) i (le_of_suc-le-suc h)

all-below : (n : ℕ) (xs : List ℕ) → ((i : ℕ) → i < length xs → get_or xs i 0 < n) → above n xs ≡ 0
all-below n [] h = refl
all-below n (x ∷ xs) h = rw (lt-ltb x n (h 0 (omega arith))) (omega (arith, all-below n xs (λ i l. h (suc i) (omega arith))))

-- Each number below t is once among t entries: every entry is below t.
pub once-below : (t : ℕ) (xs : List ℕ) → length xs ≡ t → ((k : ℕ) → k < t → count k xs ≡ 1) → (i : ℕ) → i < length xs → get_or xs i 0 < t
once-below t xs l h = none_above t xs (omega (arith, sum-all t xs, all_once t xs h))

-- Every one of t entries is below t and no number is there twice: each number below t is there once.
pub below-once : (t : ℕ) (xs : List ℕ) → length xs ≡ t → ((i : ℕ) → i < length xs → get_or xs i 0 < t) → ((k : ℕ) → k < t → count k xs ≤ 1)
    → (k : ℕ) → k < t → count k xs ≡ 1
below-once t xs l b h = each-one t xs h (omega (arith, sum-all t xs, all-below t xs b))

-- One number more, and at most as many as there are.
pub count-below-next : (p : ℕ → Bool) (n : ℕ) → count_below p n + cond (p n) 1 0 ≡ count_below p (n + 1)
unfolding count_below
count-below-next p n = rw add-one (add_comm (count_below p n) (cond (p n) 1 0))

one_at_most : (b : Bool) → cond b 1 0 ≤ 1
one_at_most true = omega arith
one_at_most false = omega arith

pub count-below-le : (p : ℕ → Bool) (n : ℕ) → count_below p n ≤ n
unfolding count_below
count-below-le p zero = omega arith
count-below-le p (suc n) = omega (arith, count-below-le p n, one_at_most (p n))

-- Tests that tell the same below n count the same.
pub count-below-same : (p q : ℕ → Bool) (n : ℕ) → ((k : ℕ) → k < n → p k ≡ q k) → count_below p n ≡ count_below q n
unfolding count_below
count-below-same p q zero same = refl
count-below-same p q (suc n) same = rw (same n (omega arith), count-below-same p q n (λ k h. same k (omega arith)))

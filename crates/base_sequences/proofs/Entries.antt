-- The entries of a list that pass a test: how often each stands there, whether one does, and the last one.
-- Assumes nothing.
use mathlib.Core.Path.{◌≡◌, refl, sym, ap, ◌∙◌}
use mathlib.Core.Bool.{Bool, true, false, cond, ◌||◌, true≢false, false≢true}
use mathlib.Core.List.{List, [], ◌∷◌, ◌++◌}
use Prim.Native.Nat.{ℕ, zero, suc, ◌+◌, ◌≤◌, ◌<◌}
use native.Mathlib.Omega.{arith}
use native.Mathlib.Nat.{not-suc-le-zero, le_of_suc-le-suc}
use borrow.Author.Tests.{eqb-true, eq-eqb}
use lib.Dec.{eqb}
use lib.ListN.{length, get_or}
use Rattle.base_lists.specs.Lists.{count}
use Rattle.base_lists.proofs.Counts.{count-first}
use Rattle.base_sequences.specs.Sequences.{keep, some, last_of}

-- A number counts as often in two lists joined as in both.
pub count-append : (g : ℕ) (xs ys : List ℕ) → count g (xs ++ ys) ≡ count g xs + count g ys
unfolding count
count-append g [] ys = omega arith
count-append g (x ∷ xs) ys = omega (arith, count-append g xs ys)

-- A list that is cut at x, which stands there once.
pub none-in-front : (a : List ℕ) (x : ℕ) (b : List ℕ) → count x (a ++ (x ∷ b)) ≤ 1 → count x a ≡ 0
none-in-front a x b once = omega (arith, count-append x a (x ∷ b), count-first x b)

-- An entry of a list is there.
pub count-entry : (xs : List ℕ) (i : ℕ) → i < length xs → 1 ≤ count (get_or xs i 0) xs
unfolding count
count-entry [] i h = absurd (not-suc-le-zero h)
count-entry (x ∷ xs) zero h = omega (arith, ap {B = ℕ} (λ (b : Bool). cond b 1 0) (eq-eqb x x refl))
count-entry (x ∷ xs) (suc i) h = omega (arith, count-entry xs i (le_of_suc-le-suc h))

-- The first entry is kept or not.
pub keep-first : (p : ℕ → Bool) (x : ℕ) (xs : List ℕ) → p x ≡ true → keep p (x ∷ xs) ≡ x ∷ keep p xs
unfolding keep
keep-first p x xs e = rw e

-- The parts of a list, by a test.
pub keep_append : (p : ℕ → Bool) (xs ys : List ℕ) → keep p (xs ++ ys) ≡ keep p xs ++ keep p ys
unfolding keep
keep_append p [] ys = refl
keep_append p (x ∷ xs) ys = go (p x) (keep_append p xs ys)
  where
    go : (b : Bool) → keep p (xs ++ ys) ≡ keep p xs ++ keep p ys
        → cond b (x ∷ keep p (xs ++ ys)) (keep p (xs ++ ys)) ≡ cond b (x ∷ keep p xs) (keep p xs) ++ keep p ys
    go true ih = ap (λ (l : List ℕ). x ∷ l) ih
    go false ih = ih

-- Two tests that are equal at each entry.
pub keep_same : (p q : ℕ → Bool) (xs : List ℕ) → ((i : ℕ) → i < length xs → p (get_or xs i 0) ≡ q (get_or xs i 0)) → keep p xs ≡ keep q xs
unfolding keep
keep_same p q [] h = refl
keep_same p q (x ∷ xs) h = rw (h 0 (omega arith), keep_same p q xs (λ i l. h (suc i) (omega arith)))

-- Each number that passes is kept as often as it is there, and no other.
pub keep-count : (p : ℕ → Bool) (g : ℕ) (xs : List ℕ) → count g (keep p xs) ≡ cond (p g) (count g xs) 0
unfolding keep count
keep-count p g [] = go (p g)
  where
    go : (b : Bool) → ◌≡◌ {A = ℕ} 0 (cond b 0 0)
    go true = refl
    go false = refl
keep-count p g (x ∷ xs) = go (p x) (p g) (eqb x g) refl refl refl (keep-count p g xs)
  where
    differ : (a b : Bool) → p x ≡ a → p g ≡ b → (a ≡ b → ⊥) → x ≡ g → ⊥
    differ a b e f n q = n (sym e ∙ ap p q ∙ f)

    go : (a b c : Bool) → p x ≡ a → p g ≡ b → eqb x g ≡ c → count g (keep p xs) ≡ cond b (count g xs) 0
        → count g (cond a (x ∷ keep p xs) (keep p xs)) ≡ cond b (cond c 1 0 + count g xs) 0
    go true true c e f q ih = rw (q, ih)
    go true false true e f q ih = absurd (differ true false e f true≢false (eqb-true x g q))
    go true false false e f q ih = rw (q, ih)
    go false true true e f q ih = absurd (differ false true e f false≢true (eqb-true x g q))
    go false true false e f q ih = rw ih (omega arith)
    go false false c e f q ih = ih

-- Where no entry passes.
pub some_first : (p : ℕ → Bool) (x : ℕ) (xs : List ℕ) → some p (x ∷ xs) ≡ false → (p x ≡ false) × (some p xs ≡ false)
unfolding some
some_first p x xs e = go (p x) e
  where
    go : (b : Bool) → (b || some p xs) ≡ false → (b ≡ false) × (some p xs ≡ false)
    go true n = absurd (true≢false n)
    go false n = (refl, n)

-- An entry that passes.
pub some-entry : (p : ℕ → Bool) (g : ℕ) (xs : List ℕ) → 1 ≤ count g xs → p g ≡ true → some p xs ≡ true
unfolding some count
some-entry p g [] h e = absurd (not-suc-le-zero h)
some-entry p g (x ∷ xs) h e = go (eqb x g) refl (p x) refl h (λ l. some-entry p g xs l e)
  where
    go : (c : Bool) → eqb x g ≡ c → (b : Bool) → p x ≡ b → 1 ≤ cond c 1 0 + count g xs → (1 ≤ count g xs → some p xs ≡ true) → (b || some p xs) ≡ true
    go true q true r l ih = refl
    go true q false r l ih = absurd (true≢false (sym e ∙ ap p (sym (eqb-true x g q)) ∙ r))
    go false q true r l ih = refl
    go false q false r l ih = ih (omega arith)

pub none-entry : (p : ℕ → Bool) (g : ℕ) (xs : List ℕ) → 1 ≤ count g xs → some p xs ≡ false → p g ≡ false
none-entry p g xs h n = go (p g) refl
  where
    go : (b : Bool) → p g ≡ b → b ≡ false
    go true e = absurd (true≢false (sym (some-entry p g xs h e) ∙ n))
    go false e = refl

-- One that passes behind others.
pub some-past : (p : ℕ → Bool) (a : List ℕ) (x : ℕ) (b : List ℕ) → p x ≡ true → some p (a ++ (x ∷ b)) ≡ true
unfolding some
some-past p [] x b e = rw e
some-past p (y ∷ a) x b e = rw (some-past p a x b e) (or-true (p y))
  where
    or-true : (c : Bool) → (c || true) ≡ true
    or-true true = refl
    or-true false = refl

-- The last entry that passes: it passes, and it is an entry.
pub last-passes : (p : ℕ → Bool) (xs : List ℕ) → some p xs ≡ true → p (last_of p xs) ≡ true
unfolding some last_of
last-passes p [] e = absurd (true≢false (sym e))
last-passes p (x ∷ xs) e = go (some p xs) refl (p x) refl e (last-passes p xs)
  where
    go : (a : Bool) → some p xs ≡ a → (b : Bool) → p x ≡ b → (b || a) ≡ true → (some p xs ≡ true → p (last_of p xs) ≡ true)
        → p (cond a (last_of p xs) (cond b x 0)) ≡ true
    go true q b r l ih = ih q
    go false q true r l ih = r
    go false q false r l ih = absurd (true≢false (sym l))

pub last_entry : (p : ℕ → Bool) (xs : List ℕ) → some p xs ≡ true → 1 ≤ count (last_of p xs) xs
unfolding some last_of count
last_entry p [] e = absurd (true≢false (sym e))
last_entry p (x ∷ xs) e = go (some p xs) refl (p x) e (last_entry p xs)
  where
    go : (a : Bool) → some p xs ≡ a → (b : Bool) → (b || a) ≡ true → (some p xs ≡ true → 1 ≤ count (last_of p xs) xs)
        → 1 ≤ count (cond a (last_of p xs) (cond b x 0)) (x ∷ xs)
    go true q b l ih = omega (arith, ih q)
    go false q true l ih = omega (arith, count-first x xs)
    go false q false l ih = absurd (true≢false (sym l))

-- A list cut at its last entry that passes.
pub record CutAtLast (p : ℕ → Bool) (xs : List ℕ) : Type 0 where
  pub front : List ℕ
  pub behind : List ℕ
  pub is : xs ≡ front ++ (last_of p xs ∷ behind)
  pub none-behind : some p behind ≡ false

pub cut-at-last : (p : ℕ → Bool) (xs : List ℕ) → some p xs ≡ true → CutAtLast p xs
unfolding some last_of
cut-at-last p [] e = absurd (true≢false (sym e))
cut-at-last p (x ∷ xs) e = go (some p xs) refl (p x) refl e (cut-at-last p xs)
  where
    go : (a : Bool) → some p xs ≡ a → (b : Bool) → p x ≡ b → (b || a) ≡ true → (some p xs ≡ true → CutAtLast p xs) → CutAtLast p (x ∷ xs)
    go true q b r l ih =
        let c = ih q in
        record { front = x ∷ c.front; behind = c.behind; is = rw q (ap (λ (l : List ℕ). x ∷ l) c.is); none-behind = c.none-behind }
    go false q true r l ih = record { front = []; behind = xs; is = rw (q, r); none-behind = q }
    go false q false r l ih = absurd (true≢false (sym l))

-- The last one that passes of a list that is cut at one that passes, with none behind it.
pub last-cut : (p : ℕ → Bool) (a : List ℕ) (x : ℕ) (b : List ℕ) → p x ≡ true → some p b ≡ false → last_of p (a ++ (x ∷ b)) ≡ x
unfolding some last_of
last-cut p [] x b e n = rw (n, e)
last-cut p (y ∷ a) x b e n = rw (some-past p a x b e) (last-cut p a x b e n)

-- Two tests that agree everywhere but at one number count what they say there.
-- Assumes nothing.
use Rattle.std.proofs.Common.{◌≡◌, ℕ, zero, suc, ◌+◌, ◌<◌, ◌≤◌, Bool, true, false, cond, not, ◌&&◌, ◌||◌, eqb, ltb, ◌≢◌, sym, refl, ap, ◌∙◌, add-zero, zero-add, arith, ltb-true, le-ltb, lt-ltb, eq-eqb, ne_eqb, eqb-true}
use borrow.Author.Tests.{eqb-false}
use Rattle.base_lists.specs.Lists.{count_below}
use Rattle.base_lists.proofs.Counts.{count-below-same}

-- A test as a number.
abbrev pub bit : Bool → ℕ
bit b = cond b 1 0

pub bit_le : (b : Bool) → bit b ≤ 1
bit_le true = omega arith
bit_le false = omega arith

pub and-false : (b : Bool) → (b && false) ≡ false
and-false true = refl
and-false false = refl

or-true : (b : Bool) → (b || true) ≡ true
or-true true = refl
or-true false = refl

pub count-below-at : (p q : ℕ → Bool) (n g : ℕ) → g < n → ((k : ℕ) → k < n → k ≢ g → p k ≡ q k) → count_below q n + bit (p g) ≡ count_below p n + bit (q g)
unfolding count_below
count-below-at p q zero g l same = absurd (omega arith)
count-below-at p q (suc n) g l same = go (eqb g n) refl (λ h. count-below-at p q n g h (λ k i. same k (omega arith)))
  where
    go : (b : Bool) → eqb g n ≡ b → (g < n → count_below q n + bit (p g) ≡ count_below p n + bit (q g))
        → bit (q n) + count_below q n + bit (p g) ≡ bit (p n) + count_below p n + bit (q g)
    go true e ih =
        let at = eqb-true g n e in
        let below : count_below p n ≡ count_below q n = count-below-same p q n (λ k h. same k (omega arith) (λ r. omega (arith, r, at))) in
        rw (at, below) (omega arith)
    go false e ih =
        let off = eqb-false g n e in
        let last : p n ≡ q n = same n (omega arith) (λ r. off (omega (arith, r))) in
        rw last (omega (arith, ih (omega (arith, off))))

-- The same where the first test fails there: one more is counted where the second passes.
pub count-below-more : (p q : ℕ → Bool) (n g : ℕ) → g < n → ((k : ℕ) → k < n → k ≢ g → p k ≡ q k) → p g ≡ false → count_below q n ≡ count_below p n + bit (q g)
count-below-more p q n g l same e = let h = rw e at (count-below-at p q n g l same) in omega (arith, h)

-- A test that passes nowhere counts none.
pub count_none : (p : ℕ → Bool) (n : ℕ) → ((k : ℕ) → p k ≡ false) → count_below p n ≡ 0
unfolding count_below
count_none p zero none = refl
count_none p (suc n) none = rw (none n) (omega (arith, count_none p n none))

-- A test of the numbers below t, counted among those below a larger n.
pub count-upto : (p : ℕ → Bool) (t n : ℕ) → t ≤ n → count_below (λ k. ltb k t && p k) n ≡ count_below p t
unfolding count_below
count-upto p t zero h = let e : t ≡ 0 = omega arith in rw e
count-upto p t (suc n) h = go (eqb t (suc n)) refl (λ l. count-upto p t n l)
  where
    go : (b : Bool) → eqb t (suc n) ≡ b → (t ≤ n → count_below (λ k. ltb k t && p k) n ≡ count_below p t)
        → bit (ltb n t && p n) + count_below (λ k. ltb k t && p k) n ≡ count_below p t
    go true e ih =
        let all : count_below (λ k. ltb k t && p k) (suc n) ≡ count_below p (suc n) = count-below-same (λ k. ltb k t && p k) p (suc n) (λ k l. rw (lt-ltb k t (omega (arith, eqb-true t (suc n) e)))) in
        all ∙ ap (count_below p) (sym (eqb-true t (suc n) e))
    go false e ih = let l : t ≤ n = omega (arith, eqb-false t (suc n) e) in rw (le-ltb n t l) (zero-add (count_below (λ k. ltb k t && p k) n) ∙ ih l)

-- A test of the numbers below t with or without one of them, g: what it says there.
pub count-side : (p : ℕ → Bool) (t n g : ℕ) (up : Bool) → t ≤ n
    → count_below (λ k. (ltb k t && p k) && (up || not (eqb k g))) n ≡ count_below (λ k. (ltb k t && p k) && not (eqb k g)) n + bit (up && (ltb g t && p g))
count-side p t n g up h = go (ltb g t) refl
  where
    off : (k : ℕ) → k ≢ g → ((ltb k t && p k) && not (eqb k g)) ≡ ((ltb k t && p k) && (up || not (eqb k g)))
    off k e = rw (ne_eqb k g e, or-true up)

    go : (b : Bool) → ltb g t ≡ b
        → count_below (λ k. (ltb k t && p k) && (up || not (eqb k g))) n ≡ count_below (λ k. (ltb k t && p k) && not (eqb k g)) n + bit (up && (b && p g))
    go true e =
        count-below-more (λ k. (ltb k t && p k) && not (eqb k g)) (λ k. (ltb k t && p k) && (up || not (eqb k g))) n g (omega (arith, ltb-true g t e))
        (λ k l. off k) (rw (eq-eqb g g refl) (and-false (ltb g t && p g)))
        ∙ rw (eq-eqb g g refl, e) (ap (λ (b : Bool). count_below (λ k. (ltb k t && p k) && not (eqb k g)) n + bit b) (last up (p g)))
      where
        last : (a b : Bool) → (b && (a || false)) ≡ (a && b)
        last true true = refl
        last true false = refl
        last false true = refl
        last false false = refl
    go false e =
        rw (and-false up)
        (count-below-same (λ k. (ltb k t && p k) && (up || not (eqb k g))) (λ k. (ltb k t && p k) && not (eqb k g)) n (λ k l. at k (eqb k g) refl)
        ∙ sym (add-zero (count_below (λ k. (ltb k t && p k) && not (eqb k g)) n)))
      where
        at : (k : ℕ) (c : Bool) → eqb k g ≡ c → ((ltb k t && p k) && (up || not (eqb k g))) ≡ ((ltb k t && p k) && not (eqb k g))
        at k true q = rw (eqb-true k g q, e)
        at k false q = sym (off k (eqb-false k g q))

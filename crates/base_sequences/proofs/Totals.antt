-- Sums over the entries of a list: over one in which each number below t stands once, and no other, it is the sum over the numbers below t, so that no order of them counts differently.
-- Assumes nothing.
use mathlib.Core.Path.{◌≡◌, refl, sym, ◌∙◌, ap}
use mathlib.Core.Logic.{◌≢◌}
use mathlib.Core.Bool.{Bool, true, false, cond}
use mathlib.Core.List.{List, [], ◌∷◌, ◌++◌}
use Prim.Native.Nat.{ℕ, zero, suc, ◌+◌, ◌*◌, ◌<◌}
use native.Mathlib.Omega.{arith}
use native.Mathlib.Nat.{not-suc-le-zero}
use borrow.Author.Tests.{eqb-true, eqb-false, eq-eqb, ne_eqb}
use lib.Dec.{eqb}
use lib.ListN.{length, get_or}
use Rattle.base_lists.specs.Lists.{count}
use Rattle.base_sequences.specs.Sequences.{total}

pub total-append : (f : ℕ → ℕ) (xs ys : List ℕ) → total f (xs ++ ys) ≡ total f xs + total f ys
unfolding total
total-append f [] ys = omega arith
total-append f (x ∷ xs) ys = omega (arith, total-append f xs ys)

-- Where f and g are equal at each entry, and where f is 0 at each.
pub total-same : (f g : ℕ → ℕ) (xs : List ℕ) → ((i : ℕ) → i < length xs → f (get_or xs i 0) ≡ g (get_or xs i 0)) → total f xs ≡ total g xs
unfolding total
total-same f g [] h = refl
total-same f g (x ∷ xs) h = omega (arith, h 0 (omega arith), total-same f g xs (λ i l. h (suc i) (omega arith)))

pub total-none : (f : ℕ → ℕ) (xs : List ℕ) → ((i : ℕ) → i < length xs → f (get_or xs i 0) ≡ 0) → total f xs ≡ 0
unfolding total
total-none f [] h = refl
total-none f (x ∷ xs) h = omega (arith, h 0 (omega arith), total-none f xs (λ i l. h (suc i) (omega arith)))

-- The sum of f at the numbers below n.
abbrev sum_below : (ℕ → ℕ) → ℕ → ℕ
sum_below f zero = 0
sum_below f (suc n) = f n + sum_below f n

sum-below-same : (f g : ℕ → ℕ) (n : ℕ) → ((k : ℕ) → k < n → f k ≡ g k) → sum_below f n ≡ sum_below g n
sum-below-same f g zero h = refl
sum-below-same f g (suc n) h = omega (arith, h n (omega arith), sum-below-same f g n (λ k l. h k (omega arith)))

sum-below-add : (f g : ℕ → ℕ) (n : ℕ) → sum_below (λ k. f k + g k) n ≡ sum_below f n + sum_below g n
sum-below-add f g zero = refl
sum-below-add f g (suc n) = omega (arith, sum-below-add f g n)

-- Where f is 0, and where it is 0 but at one number.
sum-below-none : (f : ℕ → ℕ) (n : ℕ) → ((k : ℕ) → k < n → f k ≡ 0) → sum_below f n ≡ 0
sum-below-none f zero h = refl
sum-below-none f (suc n) h = omega (arith, h n (omega arith), sum-below-none f n (λ k l. h k (omega arith)))

sum-below-one : (f : ℕ → ℕ) (n x : ℕ) → x < n → ((k : ℕ) → k < n → k ≢ x → f k ≡ 0) → sum_below f n ≡ f x
sum-below-one f zero x l h = absurd (not-suc-le-zero l)
sum-below-one f (suc n) x l h = go (eqb n x) refl (λ k. sum-below-one f n x k (λ i q. h i (omega arith)))
  where
    go : (b : Bool) → eqb n x ≡ b → (x < n → sum_below f n ≡ f x) → f n + sum_below f n ≡ f x
    go true e ih =
        let q = eqb-true n x e in
        omega (arith, ap f q, sum-below-none f n (λ k i. h k (omega arith) (λ z. omega arith)))
    go false e ih =
        let d = eqb-false n x e in
        omega (arith, h n (omega arith) d, ih (omega (arith, d)))

-- A sum over a list has each value as often as its number stands there.
total-counted : (f : ℕ → ℕ) (t : ℕ) (xs : List ℕ) → ((i : ℕ) → i < length xs → get_or xs i 0 < t) → total f xs ≡ sum_below (λ k. count k xs * f k) t
unfolding count total
total-counted f t [] h = sym (sum-below-none (λ k. 0 * f k) t (λ k l. omega arith))
total-counted f t (x ∷ xs) h =
    let ih = total-counted f t xs (λ i l. h (suc i) (omega arith)) in
    let d = sum-below-add (λ k. cond (eqb x k) 1 0 * f k) (λ k. count k xs * f k) t in
    let e = sum-below-same (λ k. (cond (eqb x k) 1 0 + count k xs) * f k) (λ k. cond (eqb x k) 1 0 * f k + count k xs * f k) t (λ k l. omega arith) in
    let one = sum-below-one (λ k. cond (eqb x k) 1 0 * f k) t x (h 0 (omega arith)) (λ k l n. rw (ne_eqb x k (λ q. n (sym q))) (omega arith)) in
    omega (arith, self)
  where
    self : cond (eqb x x) 1 0 * f x ≡ f x
    self = rw (eq-eqb x x refl) (omega arith)

module _ (t : ℕ) (order : List ℕ) (once : (k : ℕ) → k < t → count k order ≡ 1) (below : (i : ℕ) → i < length order → get_or order i 0 < t) where
  total-below : (f : ℕ → ℕ) → total f order ≡ sum_below f t
  total-below f = total-counted f t order below ∙ sum-below-same (λ k. count k order * f k) f t (λ k l. rw (once k l) (omega arith))

  -- Where f is 0 but at one number, that is the sum.
  pub total-one : (f : ℕ → ℕ) (x : ℕ) → x < t → ((k : ℕ) → k < t → k ≢ x → f k ≡ 0) → total f order ≡ f x
  total-one f x l h = total-below f ∙ sum-below-one f t x l h

-- Two such lists have one sum, where f and g are equal below t.
pub total-orders : (t : ℕ) (o₁ o₂ : List ℕ) → ((k : ℕ) → k < t → count k o₁ ≡ 1) → ((k : ℕ) → k < t → count k o₂ ≡ 1)
    → ((i : ℕ) → i < length o₁ → get_or o₁ i 0 < t) → ((i : ℕ) → i < length o₂ → get_or o₂ i 0 < t)
    → (f g : ℕ → ℕ) → ((k : ℕ) → k < t → f k ≡ g k) → total f o₁ ≡ total g o₂
total-orders t o₁ o₂ c₁ c₂ b₁ b₂ f g h =
    total-same f g o₁ (λ i l. h (get_or o₁ i 0) (b₁ i l)) ∙ total-below t o₁ c₁ b₁ g ∙ sym (total-below t o₂ c₂ b₂ g)

-- A test at every number below a bound: it passes just where it passes at each of them.
-- Assumes nothing.
use mathlib.Core.Path.{◌≡◌, refl, subst⁻¹}
use mathlib.Core.Bool.{Bool, true, false, ◌&&◌, beq}
use Prim.Native.Nat.{ℕ, zero, suc, ◌<◌}
use native.Mathlib.Omega.{arith}
use lib.Dec.{T}
use Rattle.base_lists.specs.Lists.{all_below}
use Rattle.base_lists.proofs.Tests.{below}

-- Two tests are equal where each passes where the other does.
pub both_ways : (a b : Bool) → (a ≡ true → b ≡ true) → (b ≡ true → a ≡ true) → a ≡ b
both_ways true true f g = refl
both_ways false false f g = refl
both_ways true false f g = cc (f refl)
both_ways false true f g = cc (g refl)

pub beq-true : (a b : Bool) → beq a b ≡ true → a ≡ b
beq-true true true e = refl
beq-true false false e = refl
beq-true true false e = cc
beq-true false true e = cc

pub beq-from : (a b : Bool) → a ≡ b → beq a b ≡ true
beq-from true b e = rw (← e)
beq-from false b e = rw (← e)

-- Both tests pass where their conjunction does, and the other way.
pub and_first : (a b : Bool) → (a && b) ≡ true → a ≡ true
and_first true b e = refl
and_first false b e = e

pub and_second : (a b : Bool) → (a && b) ≡ true → b ≡ true
and_second true b e = e
and_second false b e = cc

pub and_both : (a b : Bool) → a ≡ true → b ≡ true → (a && b) ≡ true
and_both a b p q = rw (p, q)

-- Two tests joined, by their answers.
pub both : {a b x y : Bool} → a ≡ x → b ≡ y → (a && b) ≡ (x && y)
both p q = rw (p, q)

-- From the test below n to each number below n.
pub below_at : (p : ℕ → Bool) (n : ℕ) → all_below p n ≡ true → (k : ℕ) → k < n → p k ≡ true
below_at p n e = below p n (subst⁻¹ T e tt)

-- From each number below n to the test below n.
pub below-from : (p : ℕ → Bool) (n : ℕ) → ((k : ℕ) → k < n → p k ≡ true) → all_below p n ≡ true
below-from p zero h = refl
below-from p (suc n) h = and_both (p n) (all_below p n) (h n (omega arith)) (below-from p n (λ k l. h k (omega arith)))

-- Two tests that are equal at each number below n are equal below n.
pub below-same : (p q : ℕ → Bool) (n : ℕ) → ((k : ℕ) → k < n → p k ≡ q k) → all_below p n ≡ all_below q n
below-same p q zero h = refl
below-same p q (suc n) h = rw (h n (omega arith), below-same p q n (λ k l. h k (omega arith)))

-- Of a conjunction.
pub below-and : (p q : ℕ → Bool) (n : ℕ) → all_below (λ k. p k && q k) n ≡ (all_below p n && all_below q n)
below-and p q n =
    both_ways (all_below (λ k. p k && q k) n) (all_below p n && all_below q n)
    (λ e. and_both (all_below p n) (all_below q n)
    (below-from p n (λ k l. and_first (p k) (q k) (below_at (λ k. p k && q k) n e k l)))
    (below-from q n (λ k l. and_second (p k) (q k) (below_at (λ k. p k && q k) n e k l))))
    (λ e. below-from (λ k. p k && q k) n
    (λ k l. and_both (p k) (q k)
    (below_at p n (and_first (all_below p n) (all_below q n) e) k l)
    (below_at q n (and_second (all_below p n) (all_below q n) e) k l)))

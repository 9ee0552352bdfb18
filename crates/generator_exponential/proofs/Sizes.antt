-- Tables of two sizes: where k times a number is written for the size and for the place, both sides of the rule are only raised to the power k.
-- Assumes nothing.
use mathlib.Core.Path.{◌≡◌}
use mathlib.Core.Bool.{true}
use Prim.Native.Nat.{ℕ, zero, suc, ◌*◌, ◌/◌, ◌%◌, ◌^◌, ◌<◌, ◌≤◌}
use native.Mathlib.Nat.{zero-mul, suc-mul, mul-pos, mul-mul-mul_comm, pow-zero, pow-suc, pow-le-pow_left, pow-lt-pow_left}
use native.Mathlib.Omega.{arith, by_contra}
use lib.Dec.{lit<}
use lib.Pow.{pow-add}
use Rattle.generator_exponential.specs.Exponential.{table_size, older_size, bound, within, Largest, entry, exponential}
use Rattle.generator_exponential.proofs.Largest.{largest-one}
use Rattle.generator_exponential.proofs.LargestEntries.{within-le, le-within, entry-largest}

pow-times : (a k n : ℕ) → a ^ (k * n) ≡ (a ^ n) ^ k
pow-times a zero n = rw (zero-mul n, pow-zero a, pow-zero (a ^ n))
pow-times a (suc k) n = rw (suc-mul k n, pow-add a (k * n) n, pow-times a k n, pow-suc (a ^ n) k)

times-pow : (a b k : ℕ) → (a * b) ^ k ≡ a ^ k * b ^ k
times-pow a b zero = rw (pow-zero (a * b), pow-zero a, pow-zero b)
times-pow a b (suc k) = rw (pow-suc (a * b) k, pow-suc a k, pow-suc b k, times-pow a b k) (mul-mul-mul_comm (a ^ k) (b ^ k) a b)

-- The left side of the rule, raised to the power k.
raised : (k n f e : ℕ) → e ^ (k * n) * 2 ^ (k * f) ≡ (e ^ n * 2 ^ f) ^ k
raised k n f e = rw (pow-times e k n, pow-times 2 k f, times-pow (e ^ n) (2 ^ f) k)

-- What is within for one size is within for its multiple at the multiple's place, and no more is.
within-up : (k n f e : ℕ) → within n f e ≡ true → within (k * n) (k * f) e ≡ true
within-up k n f e t = le-within (k * n) (k * f) e (rw (raised k n f e, pow-times bound k n) (pow-le-pow_left (within-le n f e t) k))

raised-le : (k n f e : ℕ) → within (k * n) (k * f) e ≡ true → (e ^ n * 2 ^ f) ^ k ≤ (bound ^ n) ^ k
raised-le k n f e t = rw (← raised k n f e, ← pow-times bound k n) (within-le (k * n) (k * f) e t)

within-down : (k n f e : ℕ) → 0 < k → within (k * n) (k * f) e ≡ true → within n f e ≡ true
within-down k n f e h t =
    le-within n f e
    (by_contra (e ^ n * 2 ^ f) (bound ^ n) (λ l. omega (arith, raised-le k n f e t, pow-lt-pow_left {n = k} l (λ z. omega arith))))

-- Entry k f of k n is entry f of n.
pub entry-multiple : (k n f : ℕ) → 0 < k → 0 < n → entry (k * n) (k * f) ≡ entry n f
entry-multiple k n f h p =
    let least : Largest (within n f) (entry n f) = entry-largest n f p in
    largest-one (within (k * n) (k * f)) (entry-largest (k * n) (k * f) (mul-pos h p))
    (record { passes = within-up k n f _ least.passes; most = λ x t. least.most x (within-down k n f x h t) })

-- Entry 4f of the table is entry f of the older one, and so the exponential of 4h is the older one of h.
pub older-entry : (f : ℕ) → entry table_size (4 * f) ≡ entry older_size f
older-entry f = entry-multiple 4 older_size f (lit< tt) (lit< tt)

pub older-exponential : (h : ℕ) → exponential table_size (4 * h) ≡ exponential older_size h
unfolding exponential
older-exponential h = rw (place, shift, older-entry (h % older_size))
  where
    place : 4 * h % table_size ≡ 4 * (h % older_size)
    place = omega arith

    shift : 4 * h / table_size ≡ h / older_size
    shift = omega arith

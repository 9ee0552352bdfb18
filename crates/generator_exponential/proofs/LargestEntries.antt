-- The entries of an exponential table of n: each is the largest of all numbers within, since powers rise, and one test over a whole table finds them.
-- Assumes nothing.
use mathlib.Core.Path.{◌≡◌, ap, ◌∙◌}
use mathlib.Core.Bool.{Bool, true, ◌&&◌}
use mathlib.Core.List.{List}
use Prim.Native.Nat.{ℕ, zero, suc, zero-le, ◌+◌, ◌*◌, ◌/◌, ◌%◌, ◌^◌, ◌<◌, ◌≤◌}
use native.Mathlib.Nat.{mul-zero, zero-mul, pow-suc, pow-le-pow_left, pow-lt-pow_left, mul-le-mul_right, le-mul_of_pos_right, mod-lt}
use native.Mathlib.Omega.{arith, by_contra}
use lib.Dec.{T, leb, ltb, leb→le, ltb→lt}
use lib.ListN.{length, get_or}
use lib.Pow.{pow_pos, shr_le}
use borrow.Author.Tests.{le-leb, leb-true}
use Rattle.base_lists.specs.Lists.{tabulate}
use Rattle.base_lists.proofs.Tests.{and_left, and_right}
use Rattle.base_lists.proofs.Tables.{every, tabulated, tabulate-at}
use Rattle.generator_exponential.specs.Exponential.{bound, within, Largest, entry, entries, exponential}
use Rattle.generator_exponential.proofs.Largest.{greatest-largest, greatest-low, largest-one}

pub within-le : (n f e : ℕ) → within n f e ≡ true → e ^ n * 2 ^ f ≤ bound ^ n
unfolding within
within-le n f e t = leb-true (e ^ n * 2 ^ f) (bound ^ n) t

pub le-within : (n f e : ℕ) → e ^ n * 2 ^ f ≤ bound ^ n → within n f e ≡ true
unfolding within
le-within n f e h = le-leb (e ^ n * 2 ^ f) (bound ^ n) h

zero-within : (n f : ℕ) → 0 < n → within n f 0 ≡ true
zero-within zero f h = absurd (omega arith)
zero-within (suc n) f h = le-within (suc n) f 0 (rw (pow-suc 0 n, mul-zero, zero-mul) zero-le)

-- No number above 4,093 is within: its power alone is too large.
within_low : (n f : ℕ) → 0 < n → (e : ℕ) → within n f e ≡ true → e ≤ bound
within_low n f h e t =
    by_contra e bound
    (λ l. omega (arith, within-le n f e t, pow-lt-pow_left {n = n} l (λ z. omega arith), le-mul_of_pos_right (e ^ n) (pow_pos f)))

-- Entry f of n is the largest of all e with e^n times 2^f at most 4,093^n.
pub entry-largest : (n f : ℕ) → 0 < n → Largest (within n f) (entry n f)
unfolding entry
entry-largest n f h = greatest-largest (within n f) bound (zero-within n f h) (within_low n f h)

-- The test of an entry, where top is 4,093^n: e is within, and the next number is not.
unfoldable pub right : ℕ → ℕ → ℕ → ℕ → Bool
right top n f e = leb (e ^ n * 2 ^ f) top && ltb top ((e + 1) ^ n * 2 ^ f)

-- Where the next number is not within, no larger one is.
next-largest : (n f e : ℕ) → e ^ n * 2 ^ f ≤ bound ^ n → bound ^ n < (e + 1) ^ n * 2 ^ f → Largest (within n f) e
next-largest n f e h k =
    record {
      passes = le-within n f e h;
      most = λ x t. by_contra x e (λ l. omega (arith, within-le n f x t, mul-le-mul_right (2 ^ f) (pow-le-pow_left {n = e + 1} {m = x} (omega arith) n)));
    }

right-largest : (n f e : ℕ) → T (right (bound ^ n) n f e) → Largest (within n f) e
unfolding right
right-largest n f e t =
    let low = leb (e ^ n * 2 ^ f) (bound ^ n) in
    let high = ltb (bound ^ n) ((e + 1) ^ n * 2 ^ f) in
    next-largest n f e (leb→le _ _ (and_left low high t)) (ltb→lt _ _ (and_right low high t))

pub right-entry : (n : ℕ) → 0 < n → (f e : ℕ) → T (right (bound ^ n) n f e) → e ≡ entry n f
right-entry n h f e t = largest-one (within n f) (right-largest n f e t) (entry-largest n f h)

-- A table of n numbers that pass the test is the exponential's.
pub entries-are : (n : ℕ) → 0 < n → (xs : List ℕ) → length xs ≡ n → T (every (right (bound ^ n) n) 0 xs) → xs ≡ entries n
unfolding entries
entries-are n h xs l t = tabulated (right (bound ^ n) n) (entry n) (right-entry n h) 0 xs t ∙ ap (tabulate (entry n) 0) l

-- The exponential of h from the table: the entry at h mod n, shifted right h div n places.
pub exponential-at : (n h f s : ℕ) → 0 < n → f ≡ h % n → s ≡ h / n → get_or (entries n) f 0 / 2 ^ s ≡ exponential n h
unfolding entries exponential
exponential-at n h f s pos p q = rw (p, q, tabulate-at (entry n) n (h % n) 0 (mod-lt h pos))

pub entry-low : (n f : ℕ) → entry n f ≤ bound
unfolding entry
entry-low n f = greatest-low (within n f) bound

pub exponential-low : (n h : ℕ) → exponential n h < 4096
unfolding exponential bound
exponential-low n h = omega (arith, entry-low n (h % n), shr_le (entry n (h % n)) (h / n))

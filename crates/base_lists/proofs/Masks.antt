-- A number whose bits tell which numbers pass a test: one test over the numbers below a bound.
-- Assumes nothing.
use mathlib.Core.Path.{◌≡◌}
use mathlib.Core.Bool.{Bool, beq}
use mathlib.Core.List.{List}
use Prim.Native.Nat.{ℕ, ◌/◌, ◌%◌, ◌^◌, ◌<◌}
use lib.Dec.{T, eqb}
use Rattle.base_lists.specs.Lists.{is_one_of, all_below}
use Rattle.base_lists.proofs.Tests.{below}
use Rattle.base_lists.proofs.Below.{beq-true}

-- Bit k of the mask is 1 where k passes the test, and 0 where it does not.
pub bit-tests : (mask : ℕ) (p : ℕ → Bool) (n : ℕ) → T (all_below (λ k. beq (eqb (mask / 2 ^ k % 2) 1) (p k)) n) → (k : ℕ) → k < n
    → eqb (mask / 2 ^ k % 2) 1 ≡ p k
bit-tests mask p n t k h =
    beq-true (eqb (mask / 2 ^ k % 2) 1) (p k) (below (λ k. beq (eqb (mask / 2 ^ k % 2) 1) (p k)) n t k h)

-- The same of the numbers of a list.
unfoldable pub tells : ℕ → List ℕ → ℕ → Bool
tells mask xs k = beq (eqb (mask / 2 ^ k % 2) 1) (is_one_of k xs)

pub bit-tells : (mask : ℕ) (xs : List ℕ) (n : ℕ) → T (all_below (tells mask xs) n) → (k : ℕ) → k < n → eqb (mask / 2 ^ k % 2) 1 ≡ is_one_of k xs
unfolding tells
bit-tells mask xs n t k h = bit-tests mask (λ k. is_one_of k xs) n t k h

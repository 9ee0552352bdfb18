-- The highest of what a rule gives for some names: above each of them, and no higher than what is above all.
-- Assumes nothing.
use mathlib.Core.Path.{◌≡◌, refl}
use mathlib.Core.Bool.{Bool, true, false}
use mathlib.Core.List.{List}
use Prim.Native.Nat.{ℕ, zero, suc, ◌+◌, ◌≤◌, ◌<◌, max}
use native.Mathlib.Omega.{arith}
use native.Mathlib.Nat.{max-le}
use borrow.Author.Tests.{eqb-true, eqb-false}
use lib.Dec.{eqb}
use lib.ListN.{get_or}
use Rattle.chain_numbers.specs.Earliest.{highest}

module _ (names : List ℕ) (at : ℕ) where
  pub highest-least : (f : ℕ → ℕ) (n least : ℕ) → least ≤ highest f names at n least
  unfolding highest
  highest-least f zero least = omega arith
  highest-least f (suc n) least = omega (arith, highest-least f n least)

  pub highest-at : (f : ℕ → ℕ) (n least k : ℕ) → k < n → f (get_or names (at + k) 0) ≤ highest f names at n least
  unfolding highest
  highest-at f zero least k l = absurd (omega arith)
  highest-at f (suc n) least k l = go (eqb k n) refl (λ low. highest-at f n least k low)
    where
      go : (b : Bool) → eqb k n ≡ b → (k < n → f (get_or names (at + k) 0) ≤ highest f names at n least)
          → f (get_or names (at + k) 0) ≤ max (highest f names at n least) (f (get_or names (at + n) 0))
      go true e earlier = rw (eqb-true k n e) (omega arith)
      go false e earlier = omega (arith, earlier (omega (arith, eqb-false k n e)))

  pub highest-most : (f : ℕ → ℕ) (n least most : ℕ) → least ≤ most → ((k : ℕ) → k < n → f (get_or names (at + k) 0) ≤ most) → highest f names at n least ≤ most
  unfolding highest
  highest-most f zero least most p q = p
  highest-most f (suc n) least most p q = max-le (highest-most f n least most p (λ k l. q k (omega arith))) (q n (omega arith))

  pub highest-same : (f g : ℕ → ℕ) (n least : ℕ) → ((k : ℕ) → k < n → f (get_or names (at + k) 0) ≡ g (get_or names (at + k) 0))
      → highest f names at n least ≡ highest g names at n least
  unfolding highest
  highest-same f g zero least e = refl
  highest-same f g (suc n) least e = rw (highest-same f g n least (λ k l. e k (omega arith)), e n (omega arith))

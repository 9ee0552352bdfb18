-- The lowest number at which a test fails: it is at most the bound, the test fails there if it is below the bound, and the test passes at every number below it.
-- Assumes nothing.
use mathlib.Core.Path.{◌≡◌, refl}
use mathlib.Core.Bool.{Bool, true, false, cond}
use Prim.Native.Nat.{ℕ, zero, suc, ◌≤◌, ◌<◌}
use native.Mathlib.Omega.{arith}
use native.Mathlib.Nat.{not-suc-le-zero}
use borrow.Author.Tests.{eqb-true, eqb-false, ltb-true, ltb-false}
use lib.Dec.{eqb, ltb}
use Rattle.base_sequences.specs.Sequences.{first_failing}

-- What f is said to be: at most n; a number at which the test fails, if it is below n; and such that the test passes below it.
pub record Lowest (p : ℕ → Bool) (n f : ℕ) : Type 0 where
  pub within : f ≤ n
  pub fails : f < n → p f ≡ false
  pub passes : (k : ℕ) → k < f → p k ≡ true

pub failing-lowest : (p : ℕ → Bool) (n : ℕ) → Lowest p n (first_failing p n)
unfolding first_failing
failing-lowest p zero = record { within = omega arith; fails = λ h. absurd (not-suc-le-zero h); passes = λ k h. absurd (not-suc-le-zero h) }
failing-lowest p (suc n) = go (ltb (first_failing p n) n) (p n) refl refl (failing-lowest p n)
  where
    go : (a b : Bool) → ltb (first_failing p n) n ≡ a → p n ≡ b → Lowest p n (first_failing p n)
        → Lowest p (suc n) (cond a (first_failing p n) (cond b (suc n) n))
    go true b ea eb l =
        let h = ltb-true (first_failing p n) n ea in
        record { within = omega arith; fails = λ g. l.fails h; passes = l.passes }
    go false true ea eb l = record { within = omega arith; fails = λ g. absurd (omega arith); passes = λ k h. each k h (eqb k n) refl }
      where
        each : (k : ℕ) → k < suc n → (c : Bool) → eqb k n ≡ c → p k ≡ true
        each k h true ec = rw (eqb-true k n ec) eb
        each k h false ec = l.passes k (omega (arith, ltb-false (first_failing p n) n ea, eqb-false k n ec))
    go false false ea eb l =
        record {
          within = omega arith;
          fails = λ g. eb;
          passes = λ k h. l.passes k (omega (arith, ltb-false (first_failing p n) n ea));
        }

-- It is the bound just where the test passes at every number below the bound.
pub failing-nowhere : (p : ℕ → Bool) (n : ℕ) → first_failing p n ≡ n → (k : ℕ) → k < n → p k ≡ true
failing-nowhere p n e k h = (failing-lowest p n).passes k (omega arith)

pub nowhere-failing : (p : ℕ → Bool) (n : ℕ) → ((k : ℕ) → k < n → p k ≡ true) → first_failing p n ≡ n
nowhere-failing p n f = go (ltb (first_failing p n) n) refl
  where
    never : true ≡ false → ⊥
    never e = let z : ◌≡◌ {A = ℕ} 0 1 = cc in omega arith

    go : (b : Bool) → ltb (first_failing p n) n ≡ b → first_failing p n ≡ n
    go true e =
        let h = ltb-true (first_failing p n) n e in
        absurd (never (cc (f (first_failing p n) h, (failing-lowest p n).fails h)))
    go false e = omega (arith, ltb-false (first_failing p n) n e, (failing-lowest p n).within)

-- The largest number that passes a test: a search below a bound finds it where nothing above passes, and there is only one.
-- Assumes nothing.
use mathlib.Core.Path.{◌≡◌, refl}
use mathlib.Core.Bool.{Bool, true, false, cond}
use Prim.Native.Nat.{ℕ, zero, suc, ◌≤◌}
use native.Mathlib.Omega.{arith}
use Rattle.generator_exponential.specs.Exponential.{greatest, Largest}

-- A number that passes a test is not one that fails it.
differ : (p : ℕ → Bool) (x y : ℕ) → p x ≡ true → p y ≡ false → x ≡ y → ⊥
differ p x y t f e = let z : ◌≡◌ {A = ℕ} 0 1 = cc in omega arith

-- One step of the search: b + 1 where it passes, and else what was found up to b.
step : (p : ℕ → Bool) (b g : ℕ) → ((x : ℕ) → p x ≡ true → x ≤ suc b) → (((x : ℕ) → p x ≡ true → x ≤ b) → Largest p g)
    → (v : Bool) → p (suc b) ≡ v → Largest p (cond v (suc b) g)
step p b g above found true e = record { passes = e; most = above }
step p b g above found false e = found (λ x h. omega (arith, above x h, differ p x (suc b) h e))

pub greatest-largest : (p : ℕ → Bool) (b : ℕ) → p 0 ≡ true → ((x : ℕ) → p x ≡ true → x ≤ b) → Largest p (greatest p b)
unfolding greatest
greatest-largest p zero t above = record { passes = t; most = above }
greatest-largest p (suc b) t above = step p b (greatest p b) above (λ h. greatest-largest p b t h) (p (suc b)) refl

step-low : (v : Bool) {b g : ℕ} → g ≤ b → cond v (suc b) g ≤ suc b
step-low true h = omega arith
step-low false h = omega arith

pub greatest-low : (p : ℕ → Bool) (b : ℕ) → greatest p b ≤ b
unfolding greatest
greatest-low p zero = omega arith
greatest-low p (suc b) = step-low (p (suc b)) (greatest-low p b)

pub largest-one : (p : ℕ → Bool) {a b : ℕ} → Largest p a → Largest p b → a ≡ b
largest-one p {a} {b} l m = omega (arith, l.most b m.passes, m.most a l.passes)

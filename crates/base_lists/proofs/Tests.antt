-- A test that holds of every number below a bound: antt computes it once, at one number after the other.
-- Assumes nothing.
use mathlib.Core.Path.{◌≡◌, refl, subst⁻¹}
use mathlib.Core.Bool.{Bool, true, false, ◌&&◌}
use mathlib.Core.Logic.{⊎_elim}
use Prim.Native.Nat.{ℕ, zero, suc, ◌<◌}
use native.Mathlib.Nat.{le_of_suc-le-suc, not-suc-le-zero, eq-or-lt_of_le}
use lib.Dec.{T}
use Rattle.base_lists.specs.Lists.{all_below}

-- Both parts of a test that passes pass.
pub and_left : (a b : Bool) → T (a && b) → T a
and_left true b t = tt
and_left false b t = t

pub and_right : (a b : Bool) → T (a && b) → T b
and_right true b t = t
and_right false b t = absurd t

pub passes : (b : Bool) → T b → b ≡ true
passes true t = refl
passes false t = absurd t

pub below : (p : ℕ → Bool) (n : ℕ) → T (all_below p n) → (k : ℕ) → k < n → p k ≡ true
below p zero t k h = absurd (not-suc-le-zero h)
below p (suc n) t k h =
    ⊎_elim
    (λ e. subst⁻¹ (λ (m : ℕ). p m ≡ true) e (passes (p n) (and_left (p n) (all_below p n) t)))
    (λ l. below p n (and_right (p n) (all_below p n) t) k l)
    (eq-or-lt_of_le (le_of_suc-le-suc h))

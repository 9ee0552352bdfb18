-- The pulser as each text prints it: a product with 0 is not negative.
-- Assumes nothing.
use mathlib.Core.Path.{◌≡◌, refl, ap}
use mathlib.Core.Bool.{Bool, true, false, cond, not, ◌&&◌, ◌||◌}
use Prim.Native.Nat.{ℕ, suc}
use native.Mathlib.Nat.{zero-mul, mul-zero}
use lib.Dec.{eqb}
use lib.IntN.{ℤ, pos, negsuc, ◌*ℤ◌}
use lib.Signed.{lt_z}
use borrow.Author.Tests.{eqb-true}
use Rattle.base_words.specs.Words.{signed}
use Rattle.modifier_product.specs.Product.{opposite}
use Rattle.modifier.specs.declared.Modifier.{Modifier}
use Rattle.modifier.specs.Modifier.{times_m1, times_m0, gives, with_l1}
use Rattle.modifier_modulators.specs.Modulators.{minus_epsilon, pulser}

zero_left : (z : ℤ) → lt_z (pos 0 *ℤ z) (pos 0) ≡ false
zero_left (pos n) = rw (zero-mul n)
zero_left (negsuc n) = rw (zero-mul (suc n))

zero_right : (z : ℤ) → lt_z (z *ℤ pos 0) (pos 0) ≡ false
zero_right (pos n) = rw (mul-zero n)
zero_right (negsuc n) = rw (mul-zero (suc n))

-- S by the two terms.
module _ (x y : ℕ) where
  left-zero : x ≡ 0 → opposite x y ≡ false
  unfolding opposite signed
  left-zero e = rw e (zero_left (signed 20 y))

  right_zero : y ≡ 0 → opposite x y ≡ false
  unfolding opposite signed
  right_zero e = rw e (zero_right (signed 20 x))

  old : (v w : Bool) → eqb y 0 ≡ v → eqb x 0 ≡ w → cond v 0 (cond w 0 (cond (opposite x y) minus_epsilon 0)) ≡ cond (opposite x y) minus_epsilon 0
  old true w e f = rw (right_zero (eqb-true y 0 e))
  old false true e f = rw (left-zero (eqb-true x 0 f))
  old false false e f = refl

  of-1978 : (v w : Bool) → cond v 0 (cond w minus_epsilon (cond (opposite x y) minus_epsilon 0)) ≡ cond (not v && (w || opposite x y)) minus_epsilon 0
  of-1978 true w = refl
  of-1978 false true = refl
  of-1978 false false = refl

module _ (u : Modifier) (b : ℕ) where
  -- The older text: S := -epsilon if Temp0*Temp1 is negative, else S := 0.
  pub pulser-old : pulser u b 0 ≡ gives (with_l1 u (times_m0 u b)) (cond (opposite (times_m0 u b) (times_m1 u u.l1)) minus_epsilon 0)
  unfolding pulser
  pulser-old = ap (gives (with_l1 u (times_m0 u b))) (old (times_m0 u b) (times_m1 u u.l1) _ _ refl refl)

  -- The 1978 text: if Temp1 is not 0 and either Temp0 is 0 or Temp0*Temp1 is negative, S := -epsilon, else S := 0.
  pub pulser-1978 : pulser u b minus_epsilon
      ≡ gives (with_l1 u (times_m0 u b)) (cond (not (eqb (times_m1 u u.l1) 0) && (eqb (times_m0 u b) 0 || opposite (times_m0 u b) (times_m1 u u.l1))) minus_epsilon 0)
  unfolding pulser
  pulser-1978 = ap (gives (with_l1 u (times_m0 u b))) (of-1978 (times_m0 u b) (times_m1 u u.l1) (eqb (times_m1 u u.l1) 0) (eqb (times_m0 u b) 0))

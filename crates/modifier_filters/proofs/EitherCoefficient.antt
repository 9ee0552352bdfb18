-- After two poles or two zeros, either coefficient variable: the function of the page.
-- Assumes nothing.
use mathlib.Core.Path.{◌≡◌, refl}
use Prim.Native.Nat.{ℕ}
use Rattle.modifier.specs.declared.Coefficient.{Coefficient}
use Rattle.modifier.specs.declared.Coefficient.TheVariants.{M0, M1}
use Rattle.modifier.specs.declared.Modifier.{Modifier}
use Rattle.modifier_filters.specs.Filters.{variable, two_poles, two_poles_m0_variable, two_poles_m1_variable, two_poles_variable, two_zeros, two_zeros_m0_variable, two_zeros_m1_variable, two_zeros_variable}

module _ (u : Modifier) (x a b : ℕ) where
  pub poles : (by : Coefficient) → variable by (two_poles u x a) b ≡ two_poles_variable by u x a b
  unfolding two_poles_m0_variable two_poles_m1_variable
  poles M0 = refl
  poles M1 = refl

  pub zeros : (by : Coefficient) → variable by (two_zeros u x a) b ≡ two_zeros_variable by u x a b
  unfolding two_zeros_m0_variable two_zeros_m1_variable
  zeros M0 = refl
  zeros M1 = refl

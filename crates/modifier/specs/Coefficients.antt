-- The coefficients by a name for each: M0 belongs to the second multiplication, M1 to the first.
-- Assumes nothing.
use Rattle.std.specs.Prelude.{ℕ}
use Rattle.modifier_product.specs.declared.Product.{Product}
use Rattle.modifier_product.specs.declared.Product.TheVariants.{Rounded, Integer, Whole}
use Rattle.modifier.specs.declared.Coefficient.{Coefficient}
use Rattle.modifier.specs.declared.Coefficient.TheVariants.{M0, M1}
use Rattle.modifier.specs.declared.Modifier.{Modifier}
use Rattle.modifier.specs.Modifier.{times_m1, times_m0, integer_m1, integer_m0, whole_m0, whole_m1}

-- The coefficient in its register.
abbrev pub held : Coefficient → Modifier → ℕ
held M0 u = u.m0
held M1 u = u.m1

-- The product of x and a coefficient, by the kind of product.
abbrev pub times : Product → Coefficient → Modifier → ℕ → ℕ
times Rounded M0 = times_m0
times Rounded M1 = times_m1
times Integer M0 = integer_m0
times Integer M1 = integer_m1
times Whole M0 = whole_m0
times Whole M1 = whole_m1

-- What exchanged scales are for: a product with M1 goes by AA, one with M0 or of two signals by BB, and the function stays.
-- Assumes nothing.
use mathlib.Core.Path.{◌≡◌}
use Prim.Native.Nat.{ℕ}
use native.Mathlib.Omega.{arith}
use Rattle.modifier_product.specs.Product.{product, whole_product}
use Rattle.modifier.specs.declared.Modifier.{Modifier}
use Rattle.modifier.specs.Modifier.{function_of, scale_aa, scale_bb, coefficient, times_m1, times_m0, times_signal, whole_m0}
use Rattle.modifier_old.specs.OldTurn.{exchanged}

module _ (u : Modifier) where
  pub function-kept : function_of (exchanged u) ≡ function_of u
  unfolding exchanged
  function-kept = omega arith

  first : scale_bb (exchanged u) ≡ scale_aa u
  unfolding exchanged
  first = omega arith

  second : scale_aa (exchanged u) ≡ scale_bb u
  unfolding exchanged
  second = omega arith

  pub m1-by-aa : (x : ℕ) → times_m1 (exchanged u) x ≡ product (scale_aa u) x (coefficient u.m1)
  unfolding times_m1 exchanged
  m1-by-aa x = rw first

  pub m0-by-bb : (x : ℕ) → times_m0 (exchanged u) x ≡ product (scale_bb u) x (coefficient u.m0)
  unfolding times_m0 exchanged
  m0-by-bb x = rw second

  pub signals-by-bb : (x y : ℕ) → times_signal (exchanged u) x y ≡ product (scale_bb u) x y
  unfolding times_signal exchanged
  signals-by-bb x y = rw second

  pub whole-by-bb : (x : ℕ) → whole_m0 (exchanged u) x ≡ whole_product (scale_bb u) x (coefficient u.m0)
  unfolding whole_m0 exchanged
  whole-by-bb x = rw second

-- What these turns give stays within its widths.
-- Assumes nothing.
use Prim.Native.Nat.{ℕ}
use Rattle.modifier.specs.declared.Modifier.{Modifier}
use Rattle.modifier.proofs.Low.{lows}
use Rattle.modifier.proofs.Turns.{Steady, changed}
use Rattle.modifier_filters.specs.Filters.{one_pole, filtered, one_zero, two_poles, m0_variable, m1_variable, two_poles_m0_variable, two_poles_m1_variable, two_zeros, two_zeros_m0_variable, two_zeros_m1_variable}

module _ (u : Modifier) (a : ℕ) where
  pub one-pole-steady : (b : ℕ) → Steady u a (one_pole u b)
  unfolding one_pole
  one-pole-steady b = changed u a (λ r h. search lows)

  pub one-zero-steady : Steady u a (one_zero u a)
  unfolding one_zero filtered
  one-zero-steady = changed u a (λ r h. search lows)

  pub two-poles-steady : (x : ℕ) → Steady u a (two_poles u x a)
  unfolding two_poles
  two-poles-steady x = changed u a (λ r h. search lows)

  pub two-poles-m0-variable-steady : (x b : ℕ) → Steady u a (two_poles_m0_variable u x a b)
  unfolding two_poles_m0_variable two_poles m0_variable
  two-poles-m0-variable-steady x b = changed u a (λ r h. search lows)

  pub two-poles-m1-variable-steady : (x b : ℕ) → Steady u a (two_poles_m1_variable u x a b)
  unfolding two_poles_m1_variable two_poles m1_variable
  two-poles-m1-variable-steady x b = changed u a (λ r h. search lows)

  pub two-zeros-steady : (x : ℕ) → Steady u a (two_zeros u x a)
  unfolding two_zeros
  two-zeros-steady x = changed u a (λ r h. search lows)

  pub two-zeros-m0-variable-steady : (x b : ℕ) → Steady u a (two_zeros_m0_variable u x a b)
  unfolding two_zeros_m0_variable two_zeros m0_variable
  two-zeros-m0-variable-steady x b = changed u a (λ r h. search lows)

  pub two-zeros-m1-variable-steady : (x b : ℕ) → Steady u a (two_zeros_m1_variable u x a b)
  unfolding two_zeros_m1_variable two_zeros m1_variable
  two-zeros-m1-variable-steady x b = changed u a (λ r h. search lows)

pub ruleset steady-filters = (one-pole-steady, one-zero-steady, two-poles-steady, two-poles-m0-variable-steady, two-poles-m1-variable-steady, two-zeros-steady, two-zeros-m0-variable-steady, two-zeros-m1-variable-steady)

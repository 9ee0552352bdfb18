-- What these turns give stays within its widths.
-- Assumes nothing.
use Prim.Native.Nat.{ℕ}
use Rattle.modifier.specs.declared.Modifier.{Modifier}
use Rattle.modifier.proofs.Low.{lows}
use Rattle.modifier.proofs.Turns.{Steady, changed}
use Rattle.modifier_mixers.specs.Mixers.{inactive, integer_mixing, mixing, signum, minimum, maximum, threshold}

module _ (u : Modifier) (a : ℕ) where
  pub inactive-steady : Steady u a (inactive u)
  unfolding inactive
  inactive-steady = changed u a (λ r h. search lows)

  pub integer-mixing-steady : (b : ℕ) → Steady u a (integer_mixing u a b)
  unfolding integer_mixing
  integer-mixing-steady b = changed u a (λ r h. search lows)

  pub mixing-steady : (b : ℕ) → Steady u a (mixing u a b)
  unfolding mixing
  mixing-steady b = changed u a (λ r h. search lows)

  pub signum-steady : (b : ℕ) → Steady u a (signum u a b)
  unfolding signum
  signum-steady b = changed u a (λ r h. search lows)

  pub minimum-steady : (b : ℕ) → Steady u a (minimum u a b)
  unfolding minimum
  minimum-steady b = changed u a (λ r h. search lows)

  pub maximum-steady : (b : ℕ) → Steady u a (maximum u a b)
  unfolding maximum
  maximum-steady b = changed u a (λ r h. search lows)

  pub threshold-steady : (b : ℕ) → Steady u a (threshold u a b)
  unfolding threshold
  threshold-steady b = changed u a (λ r h. search lows)

pub ruleset steady-mixers = (inactive-steady, integer-mixing-steady, mixing-steady, signum-steady, minimum-steady, maximum-steady, threshold-steady)

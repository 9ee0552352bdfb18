-- What this turn gives stays within its widths, with a word of 20 bits from the unit.
-- Assumes nothing.
use Prim.Native.Nat.{ℕ, ◌^◌, ◌<◌}
use Rattle.modifier.specs.declared.Modifier.{Modifier}
use Rattle.modifier.proofs.Low.{lows}
use Rattle.modifier.proofs.Turns.{Steady, changed}
use Rattle.modifier_delay.specs.Invoke.{invoke_delay}

pub invoke-delay-steady : (u : Modifier) (a dm : ℕ) → dm < 2 ^ 20 → Steady u a (invoke_delay u a dm)
unfolding invoke_delay
invoke-delay-steady u a dm l = changed u a (λ r h. search lows)

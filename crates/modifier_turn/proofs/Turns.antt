-- Whatever the function's code is, what a turn gives stays within its widths.
-- Assumes nothing.
use Prim.Native.Nat.{ℕ, ◌^◌, ◌<◌}
use Rattle.modifier.specs.declared.Modifier.{Modifier}
use Rattle.modifier.specs.Modifier.{Ranged}
use Rattle.modifier.proofs.Turns.{Low, Steady, either-steady, nothing-steady}
use Rattle.modifier_mixers.proofs.Steady.{steady-mixers}
use Rattle.modifier_modulators.proofs.Steady.{steady-modulators}
use Rattle.modifier_filters.proofs.Steady.{steady-filters}
use Rattle.modifier_delay.proofs.Steady.{invoke-delay-steady}
use Rattle.modifier_turn.specs.Turn.{turn_of}

turn-steady : (u : Modifier) (a b : ℕ) → b < 2 ^ 20 → Steady u a (turn_of u a b)
unfolding turn_of
turn-steady u a b l = search (either-steady, nothing-steady, steady-mixers, steady-modulators, steady-filters, invoke-delay-steady) depth 25

-- S is a word of 20 bits, and the registers stay within their widths.
pub turn_low : (u : Modifier) (a b : ℕ) → Ranged u → a < 2 ^ 20 → b < 2 ^ 20 → Low (turn_of u a b)
turn_low u a b r h l = (turn-steady u a b l).low r h

-- Whatever the function's code is, what a turn of the older text gives stays within its widths.
-- Assumes nothing.
use Prim.Native.Nat.{ℕ, ◌^◌, ◌<◌}
use native.Mathlib.Omega.{arith}
use lib.Dec.{lit≤}
use Rattle.modifier.specs.declared.Modifier.{Modifier}
use Rattle.modifier.specs.Modifier.{Ranged, function_of}
use Rattle.modifier.specs.Functions.{turn_in}
use Rattle.modifier.proofs.Low.{lows}
use Rattle.modifier.proofs.Turns.{Low, Steady, either-steady, nothing-steady}
use Rattle.modifier_mixers.proofs.Steady.{steady-mixers}
use Rattle.modifier_modulators.proofs.Steady.{steady-modulators}
use Rattle.modifier_filters.proofs.Steady.{steady-filters}
use Rattle.modifier_old.specs.OldTurn.{with_mmode, exchanged, old_noise, old_functions, old_turn_of}

-- Registers that are within their widths are so with another MMODE that is.
mmode-ranged : {u : Modifier} → Ranged u → {m : ℕ} → m < 2 ^ 9 → Ranged (with_mmode u m)
mmode-ranged r h =
    record {
      m0-low = r.m0-low;
      m1-low = r.m1-low;
      l0-low = r.l0-low;
      l1-low = r.l1-low;
      min-low = r.min-low;
      mrm-low = r.mrm-low;
      msum-low = r.msum-low;
      mmode-low = h;
    }

pub exchanged-ranged : (u : Modifier) → Ranged u → Ranged (exchanged u)
unfolding exchanged
exchanged-ranged u r = mmode-ranged r (omega arith)

old-noise-low : (u : Modifier) → old_noise u < 2 ^ 20
unfolding old_noise
old-noise-low u = search lows

zero-low : 0 < 2 ^ 20
zero-low = lit≤ tt

turn-steady : (u : Modifier) (n a b : ℕ) → Steady u a (turn_in old_functions n u a b)
turn-steady u n a b = search (either-steady, nothing-steady, steady-mixers, steady-modulators, steady-filters, old-noise-low, zero-low) depth 20

-- S is a word of 20 bits, and the registers stay within their widths.
pub old-turn-low : (u : Modifier) (a b : ℕ) → Ranged u → a < 2 ^ 20 → Low (old_turn_of u a b)
unfolding old_turn_of
old-turn-low u a b r h =
    let t = (turn-steady (exchanged u) (function_of u) a b).low (exchanged-ranged u r) h in
    record { ranged = mmode-ranged t.ranged r.mmode-low; s-low = t.s-low }

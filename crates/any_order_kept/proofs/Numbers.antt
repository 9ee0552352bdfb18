-- The change that three numbers ask for.
-- Assumes nothing.
use mathlib.Core.Path.{◌≡◌, refl}
use mathlib.Core.Bool.{false}
use Prim.Native.Nat.{ℕ, ◌<◌}
use native.Mathlib.Omega.{arith}
use borrow.Author.Tests.{lt-leb}
use Rattle.std.specs.Prelude.{Some, None}
use Rattle.layout.specs.Machine.{Machine}
use Rattle.any_order_sums.specs.Places.{Kept}
use Rattle.machine_change.specs.declared.PartialChange.{PartialChange}
use Rattle.machine_change.specs.Change.{Change, is_change, changed_by, concerned, change_refusal}
use Rattle.machine_change.specs.Kinds.{change_of_kind, of_numbers}
use Rattle.machine_change.proofs.Numbers.{same-by, above-kinds}
use Rattle.any_order_kept.specs.Keeping.{change_of}

module _ (m : Machine) (k : Kept) (kind g v : ℕ) where
  abbrev c : Change
  c = record { kind = kind; generator = g; value = v }

  -- The change asked for is the one of the numbers: a change of T looks at no generator and no value.
  pub same-change : {x : PartialChange} → Some x ≡ of_numbers c → change_of m k (change_of_kind x) ≡ change_of m k c
  unfolding change_of change_refusal is_change changed_by concerned
  same-change e = same-by kind g v (change_of m k) refl refl e

  -- Where there is none, the numbers are no change's.
  pub none-such : None ≡ of_numbers c → is_change c ≡ false
  unfolding is_change
  none-such e =
      let high = above-kinds kind g v e in
      let more : 3 < kind = omega (arith, high) in
      rw (lt-leb kind 3 more, lt-leb kind 5 high)

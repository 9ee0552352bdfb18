-- One load after another: what each leaves, by what it found.
-- Assumes nothing.
use mathlib.Core.Path.{◌≡◌}
use mathlib.Core.Bool.{Bool}
use mathlib.Core.List.{List}
use Prim.Native.Nat.{ℕ}
use Rattle.command_fields.specs.Fields.{flag}
use Rattle.command_load.specs.Loads.{loaded_unless, cleared_if, loaded_two, loaded_then_cleared}

module _ (m : List ℕ) (c first v second w : ℕ) {l after : List ℕ} where
  pub two-loads : {p q : Bool} → p ≡ flag 4 c → l ≡ loaded_unless p m first v → q ≡ flag 5 c → after ≡ loaded_unless q l second w
      → after ≡ loaded_two m c first v second w
  unfolding loaded_two
  two-loads ep e eq f = rw (f, e, ep, eq)

  pub then-clears : (third : ℕ) {p : Bool} → l ≡ loaded_two m c first v second w → p ≡ flag 6 c → after ≡ cleared_if p l third
      → after ≡ loaded_then_cleared m c first v second w third
  unfolding loaded_then_cleared
  then-clears third e ep f = rw (f, e, ep)

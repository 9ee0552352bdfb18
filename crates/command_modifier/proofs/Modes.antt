-- MMODE from its two parts, each kept or loaded: it fits its word.
-- Assumes nothing.
use mathlib.Core.Path.{◌≡◌}
use mathlib.Core.Bool.{Bool, true, false, cond}
use Prim.Native.Nat.{ℕ, ◌+◌, ◌*◌, ◌/◌, ◌%◌, ◌^◌, ◌<◌}
use native.Mathlib.Omega.{arith}
use Rattle.command_fields.specs.Fields.{field, flag}
use Rattle.command_modifier.specs.ModifierLoads.{mmode_by}

-- A number that is chosen is below what both are below.
chosen-below : (first : Bool) (a b n : ℕ) {r : ℕ} → r ≡ cond first a b → a < n → b < n → r < n
chosen-below true a b n e p q = rw e p
chosen-below false a b n e p q = rw e q

-- The parts as the code found them: f and s the disable bits, x and y the fields, function and scales the choices.
module _ (mmode c : ℕ) {f s : Bool} {x y function scales : ℕ}
    (ef : f ≡ flag 4 c) (ex : x ≡ field 8 12 c) (function-is : function ≡ cond f (mmode / 16) x)
    (es : s ≡ flag 7 c) (ey : y ≡ field 13 16 c) (scales-are : scales ≡ cond s (mmode % 16) y) where
  pub mmode-fits : mmode < 2 ^ 32 → function * 16 + scales < 2 ^ 32
  mmode-fits h =
      let p = chosen-below f (mmode / 16) x (2 ^ 28) function-is (omega arith) (omega (arith, ex)) in
      let q = chosen-below s (mmode % 16) y (2 ^ 4) scales-are (omega arith) (omega (arith, ey)) in
      omega (arith, p, q)

  pub mmode-is : function * 16 + scales ≡ mmode_by mmode c
  unfolding mmode_by
  mmode-is = rw (function-is, scales-are, ef, ex, es, ey)

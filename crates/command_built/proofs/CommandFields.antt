-- The fields that question 3 asks about, as the code found them: each has its width, so only its modes and addresses are judged.
-- Assumes nothing.
use mathlib.Core.Path.{◌≡◌, refl}
use mathlib.Core.Bool.{Bool, ◌&&◌, ◌||◌}
use Prim.Native.Nat.{ℕ, ◌/◌, ◌%◌}
use native.Mathlib.Omega.{arith}
use borrow.Author.Tests.{lt-ltb}
use Rattle.layout_modes.specs.Modes.{built_run, built_oscillator}
use Rattle.layout_codes.specs.BuiltCodes.{built_function}
use Rattle.machine.specs.Questions.{good_address}
use Rattle.command_fields.specs.Fields.{field, flag}
use Rattle.command_built.specs.Built.{built_gmode, built_mmode, built_mrm}

-- Ten bits hold a GMODE, nine an MMODE, eight an address.
module _ (c : ℕ) where
  pub gmode-judged : {disabled run oscillator : Bool} {x : ℕ} → disabled ≡ flag 4 c → x ≡ field 7 16 c
      → run ≡ built_run (x / 64) → oscillator ≡ built_oscillator (x % 16) → (disabled || (run && oscillator)) ≡ built_gmode c
  gmode-judged d e r o = rw (d, r, o, e, lt-ltb (field 7 16 c) 1024 (omega arith)) refl

  pub mmode-judged : {disabled function : Bool} {x : ℕ} → disabled ≡ flag 4 c → x ≡ field 8 12 c
      → function ≡ built_function x → (disabled || function) ≡ built_mmode c
  mmode-judged d e f =
      let p : field 8 12 c ≡ field 8 16 c / 16 = omega arith in
      rw (d, f, e, p, lt-ltb (field 8 16 c) 512 (omega arith)) refl

  pub mrm-judged : {r i mrm min : Bool} {x y : ℕ} → r ≡ flag 4 c → x ≡ field 8 15 c → mrm ≡ good_address x
      → i ≡ flag 5 c → y ≡ field 16 23 c → min ≡ good_address y → ((r || mrm) && (i || min)) ≡ built_mrm c
  mrm-judged r x p i y q = rw (p, q, r, x, i, y) refl

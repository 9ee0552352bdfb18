-- What question 3 asks, by the code as the code found it.
-- Assumes nothing.
use mathlib.Core.Path.{◌≡◌, refl}
use mathlib.Core.Logic.{◌≢◌}
use mathlib.Core.Bool.{Bool, true, not, ◌&&◌}
use Prim.Native.Nat.{ℕ}
use native.Mathlib.Omega.{arith}
use lib.Dec.{ltb}
use borrow.Author.Tests.{ne_eqb, eq-eqb}
use Rattle.command_fields.specs.Fields.{field, flag, code4, code5}
use Rattle.command_delay.specs.DelayLoads.{built_dly}
use Rattle.command_built.specs.Built.{built_gmode, built_mmode, built_mrm, built}

module _ (c : ℕ) {code : ℕ} (ec : code ≡ code5 c) where
  pub asks-misc : {rr : ℕ} {s : Bool} → code ≡ 0b00000 → rr ≡ field 29 30 c → s ≡ flag 35 c → (ltb rr 0b10 && not s) ≡ built c
  unfolding built
  asks-misc e r s = rw (← ec, e, r, s) refl

  pub asks-delay : {b : Bool} → code ≡ 0b00001 → b ≡ built_dly c → b ≡ built c
  unfolding built
  asks-delay e b = rw (b, ← ec, e)

  pub asks-ticks : {fixed : Bool} → code ≡ 0b00011 → fixed ≡ flag 31 c → not fixed ≡ built c
  unfolding built
  asks-ticks e f = rw (← ec, e, f) refl

  pub asks-gmode : {b : Bool} → code4 c ≡ 0b1010 → b ≡ built_gmode c → b ≡ built c
  unfolding built
  asks-gmode e b =
      rw (
        b,
        ne_eqb (code5 c) 0b00000 (λ q. omega arith),
        ne_eqb (code5 c) 0b00001 (λ q. omega arith),
        ne_eqb (code5 c) 0b00011 (λ q. omega arith),
        eq-eqb (code4 c) 0b1010 e,
      )

  pub asks-mmode : {b : Bool} → code ≡ 0b11110 → b ≡ built_mmode c → b ≡ built c
  unfolding built
  asks-mmode e b = let q : code4 c ≡ 0b1111 = omega (arith, ec) in rw (b, ← ec, e, q)

  pub asks-mrm : {b : Bool} → code ≡ 0b11111 → b ≡ built_mrm c → b ≡ built c
  unfolding built
  asks-mrm e b = let q : code4 c ≡ 0b1111 = omega (arith, ec) in rw (b, ← ec, e, q)

  pub asks_nothing : code ≢ 0b00000 → code ≢ 0b00001 → code ≢ 0b00011 → code4 c ≢ 0b1010 → code ≢ 0b11110 → code ≢ 0b11111 → true ≡ built c
  unfolding built
  asks_nothing misc delay ticks gmode mmode mrm =
      rw (← ec, ne_eqb code 0b00000 misc, ne_eqb code 0b00001 delay, ne_eqb code 0b00011 ticks, ne_eqb (code4 c) 0b1010 gmode, ne_eqb code 0b11110 mmode, ne_eqb code 0b11111 mrm)

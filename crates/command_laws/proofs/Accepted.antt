-- What questions 3 and 4 tell of a command that they accept.
-- Assumes nothing.
use mathlib.Core.Path.{◌≡◌}
use mathlib.Core.Bool.{Bool, true, false, ◌||◌}
use mathlib.Core.List.{[]}
use Prim.Native.Nat.{ℕ, ◌≤◌}
use native.Mathlib.Omega.{arith}
use borrow.Author.Tests.{eqb-true, leb-true, ne_eqb}
use lib.Dec.{eqb, leb}
use Rattle.base_lists.proofs.Below.{and_first, and_second}
use Rattle.base_questions.proofs.Asked.{both_yes}
use Rattle.layout_codes.specs.BuiltCodes.{built_mode}
use Rattle.machine.specs.Questions.{good_gmode, good_mmode, good_address}
use Rattle.command_fields.specs.Fields.{field, flag, code4, code5}
use Rattle.command_timer.specs.Timer.{ticks_data}
use Rattle.command_delay.specs.DelayLoads.{uu_of, delay_mode_data, built_dly}
use Rattle.command_built.specs.Built.{built, ticks_fit, built_mrm, question3, question4, command_refusal}
use Rattle.layout_texts.specs.declared.Text.TheVariants.{Of1978}

-- A command that is not refused: both questions are answered yes.
pub record Accepted (c : ℕ) : Type 0 where
  pub is-built : built c ≡ true
  pub ticks-fit : ticks_fit c ≡ true

pub accepted : (c : ℕ) → command_refusal c ≡ 0 → Accepted c
unfolding command_refusal
accepted c e =
    let both = both_yes (question3 c) (question4 c) [] (λ q. omega arith) (λ q. omega arith) e in
    record { is-built = both.0; ticks-fit = both.1 }

-- GMODE has built modes where it is not disabled.
or_else : (a b : Bool) → (a || b) ≡ true → a ≡ false → b ≡ true
or_else true b p q = cc q
or_else false b p q = p

pub gmode-accepted : (c : ℕ) → Accepted c → eqb (code4 c) 0b1010 ≡ true → flag 4 c ≡ false → good_gmode Of1978 (field 7 16 c) ≡ true
unfolding built
gmode-accepted c p t =
    let k = eqb-true (code4 c) 0b1010 t in
    or_else (flag 4 c) (good_gmode Of1978 (field 7 16 c))
    (rw (ne_eqb (code5 c) 0b00000 (λ q. omega arith), ne_eqb (code5 c) 0b00001 (λ q. omega arith), ne_eqb (code5 c) 0b00011 (λ q. omega arith), t) at p.is-built)

-- The function of MMODE likewise.
pub mmode-accepted : (c : ℕ) → Accepted c → eqb (code5 c) 0b11110 ≡ true → flag 4 c ≡ false → good_mmode Of1978 (field 8 16 c) ≡ true
unfolding built
mmode-accepted c p t =
    let k = eqb-true (code5 c) 0b11110 t in
    let q : code4 c ≡ 0b1111 = omega arith in
    or_else (flag 4 c) (good_mmode Of1978 (field 8 16 c)) (rw (k, q) at p.is-built)

-- MRM and MIN likewise.
both-addresses : (c : ℕ) → Accepted c → eqb (code5 c) 0b11111 ≡ true → built_mrm c ≡ true
unfolding built
both-addresses c p t =
    let k = eqb-true (code5 c) 0b11111 t in
    let q : code4 c ≡ 0b1111 = omega arith in
    rw (k, q) at p.is-built

pub mrm-accepted : (c : ℕ) → Accepted c → eqb (code5 c) 0b11111 ≡ true → flag 4 c ≡ false → good_address (field 8 15 c) ≡ true
mrm-accepted c p t =
    or_else (flag 4 c) (good_address (field 8 15 c))
    (and_first (flag 4 c || good_address (field 8 15 c)) (flag 5 c || good_address (field 16 23 c)) (both-addresses c p t))

pub min-accepted : (c : ℕ) → Accepted c → eqb (code5 c) 0b11111 ≡ true → flag 5 c ≡ false → good_address (field 16 23 c) ≡ true
min-accepted c p t =
    or_else (flag 5 c) (good_address (field 16 23 c))
    (and_second (flag 4 c || good_address (field 8 15 c)) (flag 5 c || good_address (field 16 23 c)) (both-addresses c p t))

-- DLY with UU 10 has a built mode.
pub dly-accepted : (c : ℕ) → Accepted c → eqb (code5 c) 0b00001 ≡ true → eqb (uu_of c) 0b10 ≡ true → built_mode (delay_mode_data c) ≡ true
unfolding built built_dly
dly-accepted c p t q = rw (eqb-true (code5 c) 0b00001 t, eqb-true (uu_of c) 0b10 q) at p.is-built

-- TICKS with Q 0 has a number of at most 255.
pub ticks-accepted : (c : ℕ) → Accepted c → eqb (code5 c) 0b00011 ≡ true → flag 32 c ≡ false → ticks_data c ≤ 255
unfolding ticks_fit
ticks-accepted c p t q = leb-true (ticks_data c) 255 (or_else (flag 32 c) (leb (ticks_data c) 255) (rw t at p.ticks-fit) q)

-- The run modes by the numbers that they are switched as: one test over the eight.
-- Assumes nothing.
use mathlib.Core.Path.{◌≡◌}
use mathlib.Core.Bool.{Bool, beq, true, false}
use Prim.Native.Nat.{ℕ, zero, suc, ◌+◌, ◌*◌, ◌/◌, ◌%◌, ◌^◌, ◌<◌}
use native.Mathlib.Omega.{arith}
use lib.Dec.{eqb, ltb, lit<}
use borrow.Author.Tests.{eqb-true, ltb-true}
use Rattle.layout_modes.specs.Modes.{wait}
use Rattle.base_lists.proofs.Tests.{below}
use Rattle.base_lists.proofs.Below.{beq-true}
use Rattle.layout_old_modes.specs.OldModes.{old_run, negative_gn, switched_as, old_run_mode}

-- Digit r of the constant, with the sign of GN added for 111.
pub digit-switched : (r n : ℕ) → r < 8 → n < 2 → 0x27D9EF10 / 2 ^ (4 * r) % 16 + (r + n) / 8 ≡ switched_as r (eqb n 1)
digit-switched r zero h l = eqb-true _ _ (below (λ (r : ℕ). eqb (0x27D9EF10 / 2 ^ (4 * r) % 16 + (r + 0) / 8) (switched_as r false)) 8 tt r h)
digit-switched r (suc zero) h l = eqb-true _ _ (below (λ (r : ℕ). eqb (0x27D9EF10 / 2 ^ (4 * r) % 16 + (r + 1) / 8) (switched_as r true)) 8 tt r h)
digit-switched r (suc (suc n)) h l = absurd (omega arith)

-- Each is a number of 4 bits.
digits_low : (r : ℕ) (negative : Bool) → r < 8 → switched_as r negative < 16
digits_low r true h = ltb-true _ 16 (below (λ (r : ℕ). ltb (switched_as r true) 16) 8 tt r h)
digits_low r false h = ltb-true _ 16 (below (λ (r : ℕ). ltb (switched_as r false) 16) 8 tt r h)

pub switched-low : (gmode gn : ℕ) → old_run_mode gmode gn < 16
unfolding old_run_mode
switched-low gmode gn = digits_low (old_run gmode) (negative_gn gn) (omega arith)

-- 000 and 001, with GMODE below 64, are switched as the same numbers, and have nothing on.
idle-run : (r : ℕ) (negative : Bool) → r < 2 → switched_as r negative < 2
idle-run zero negative h = lit< tt
idle-run (suc zero) negative h = lit< tt
idle-run (suc (suc r)) negative h = absurd (omega arith)

pub idle-low : (gmode gn : ℕ) → gmode < 64 → old_run_mode gmode gn < 2
unfolding old_run_mode
idle-low gmode gn h = idle-run (old_run gmode) (negative_gn gn) (omega arith)

-- 100 alone is switched as 1001.
waits-alone : (r : ℕ) (negative : Bool) → r < 8 → eqb (switched_as r negative) wait ≡ eqb r 0b100
waits-alone r true h = beq-true _ _ (below (λ (r : ℕ). beq (eqb (switched_as r true) wait) (eqb r 0b100)) 8 tt r h)
waits-alone r false h = beq-true _ _ (below (λ (r : ℕ). beq (eqb (switched_as r false) wait) (eqb r 0b100)) 8 tt r h)

pub waits_in : (gmode gn : ℕ) → eqb (old_run_mode gmode gn) wait ≡ eqb (old_run gmode) 0b100
unfolding old_run_mode
waits_in gmode gn = waits-alone (old_run gmode) (negative_gn gn) (omega arith)

-- GMODE and GN as a generator is loaded have the run mode that the machine's words have.
pub loaded-mode : (gmode gn : ℕ) → old_run_mode (gmode % 2 ^ 10) (gn % 2 ^ 11) ≡ old_run_mode gmode gn
unfolding old_run_mode
loaded-mode gmode gn = rw (run, sign)
  where
    run : old_run (gmode % 2 ^ 10) ≡ old_run gmode
    run = omega arith

    sign : gn % 2 ^ 11 / 2 ^ 10 % 2 ≡ gn / 2 ^ 10 % 2
    sign = omega arith

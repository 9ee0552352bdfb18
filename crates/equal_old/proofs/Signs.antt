-- The sign of GN: only 111 is switched by it, and only 111 feeds a DAC. One test over the eight run modes.
-- Assumes nothing.
use mathlib.Core.Path.{◌≡◌, refl, sym, ◌∙◌}
use mathlib.Core.Bool.{Bool, true, false, not, ◌||◌}
use Prim.Native.Nat.{ℕ, ◌<◌}
use native.Mathlib.Omega.{arith}
use borrow.Author.Tests.{eqb-true, eq-eqb}
use lib.Dec.{eqb}
use Rattle.base_lists.proofs.Tests.{below}
use Rattle.layout_modes.specs.Modes.{write_dac}
use Rattle.layout_old_modes.specs.OldModes.{old_run, negative_gn, switched_as, old_run_mode}

switched-by : (r : ℕ) (a b : Bool) → r < 8 → (r ≡ 0b111 → a ≡ b) → switched_as r a ≡ switched_as r b
switched-by r a b h f = go (eqb r 0b111) refl
  where
    unsigned : (c : Bool) → eqb r 0b111 ≡ false → switched_as r c ≡ switched_as r true
    unsigned true e = refl
    unsigned false e = eqb-true _ _ (rw e at (below (λ (r : ℕ). eqb r 0b111 || eqb (switched_as r false) (switched_as r true)) 8 tt r h))

    go : (t : Bool) → eqb r 0b111 ≡ t → switched_as r a ≡ switched_as r b
    go true e = rw (f (eqb-true r 0b111 e))
    go false e = unsigned a e ∙ sym (unsigned b e)

pub by_sign : (gmode a b : ℕ) → (old_run gmode ≡ 0b111 → negative_gn a ≡ negative_gn b) → old_run_mode gmode a ≡ old_run_mode gmode b
unfolding old_run_mode
by_sign gmode a b = switched-by (old_run gmode) (negative_gn a) (negative_gn b) (omega arith)

feeds : (r : ℕ) (a : Bool) → r < 8 → eqb (switched_as r a) write_dac ≡ true → r ≡ 0b111
feeds r true h e = eqb-true r 0b111 (rw e at (below (λ (r : ℕ). not (eqb (switched_as r true) write_dac) || eqb r 0b111) 8 tt r h))
feeds r false h e = eqb-true r 0b111 (rw e at (below (λ (r : ℕ). not (eqb (switched_as r false) write_dac) || eqb r 0b111) 8 tt r h))

pub feeds-in : (gmode gn : ℕ) → old_run_mode gmode gn ≡ write_dac → old_run gmode ≡ 0b111
unfolding old_run_mode
feeds-in gmode gn e = feeds (old_run gmode) (negative_gn gn) (omega arith) (eq-eqb _ write_dac e)

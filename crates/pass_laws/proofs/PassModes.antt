-- How many generators read and how many write data: as many after a pass as before it, since only the run modes 1001 and 1101 change, each into one of the two.
-- Assumes nothing.
use mathlib.Core.Path.{◌≡◌, sym, ap}
use mathlib.Core.Logic.{◌≢◌}
use Prim.Native.Nat.{ℕ, ◌+◌, ◌≤◌, ◌<◌}
use native.Mathlib.Omega.{arith}
use lib.Dec.{eqb}
use lib.ListN.{set}
use lib.Seq.{get_or-set_other}
use Rattle.base_lists.proofs.Counts.{count-below-same}
use Rattle.layout.specs.Layout.{generator_at, t_at, GN, GMODE}
use Rattle.layout.specs.Machine.{Machine, ticks_of}
use Rattle.layout_texts.specs.Texts.{run_mode_at}
use Rattle.layout_texts.specs.declared.Text.{Text}
use Rattle.layout_modes.specs.Modes.{wait, running_c}
use Rattle.pass_order.specs.Order.{in_mode}
use Rattle.pass_model.specs.Pass.{Call, pass_of}
use Rattle.pass_model.proofs.Keeps.{same-run}
use Rattle.pass_laws.proofs.PassSettings.{pass-settings}

-- Machines with the same T whose generators below it are alike in a run mode.
pub same-modes : (text : Text) (m r : Machine) (mode : ℕ) → ticks_of r ≡ ticks_of m → ((g : ℕ) → g < ticks_of m → eqb (run_mode_at text r g) mode ≡ eqb (run_mode_at text m g) mode)
    → in_mode text r mode ≡ in_mode text m mode
unfolding in_mode
same-modes text m r mode t same = rw t (count-below-same (λ g. eqb (run_mode_at text r g) mode) (λ g. eqb (run_mode_at text m g) mode) (ticks_of m) same)

-- After a pass.
pub pass-modes : (text : Text) (m : Machine) (call : Call) (mode : ℕ) → ticks_of m ≤ 256 → mode ≢ wait → mode ≢ running_c → in_mode text (pass_of text m call).machine mode ≡ in_mode text m mode
pass-modes text m call mode few n c =
    let kept = pass-settings text m call in
    same-modes text m (pass_of text m call).machine mode kept.t (λ g h. (kept.generator g (omega arith)).gmode_other mode n c)

-- After a word that is not T and no generator's is set.
pub set-modes : (text : Text) (m : Machine) (i v mode : ℕ) → ticks_of m ≤ 256 → 2816 ≤ i → i ≢ t_at → in_mode text (set m i v) mode ≡ in_mode text m mode
set-modes text m i v mode few h n =
    same-modes text m (set m i v) mode (get_or-set_other m i t_at v 0 (λ e. n (sym e)))
    (λ g l. ap (λ (x : ℕ). eqb x mode)
    (same-run text m (set m i v) g (get_or-set_other m i (generator_at g + GMODE) v 0 (λ e. omega arith)) (get_or-set_other m i (generator_at g + GN) v 0 (λ e. omega arith))))

-- The run modes filled one after the other.
-- Assumes nothing.
use mathlib.Core.Path.{◌≡◌, refl, ◌∙◌}
use mathlib.Core.Bool.{Bool, true, false}
use mathlib.Core.List.{List}
use Prim.Native.Nat.{ℕ, ◌+◌, ◌^◌, ◌<◌}
use native.Mathlib.Omega.{arith}
use borrow.Author.Tests.{eqb-true, eqb-false}
use lib.Dec.{eqb}
use lib.ListN.{length, get_or, set}
use lib.Seq.{get_or-set_same, get_or-set_other}
use Rattle.layout.specs.Layout.{generator_at, GN}
use Rattle.layout.specs.Machine.{Machine, gmode_at}
use Rattle.layout.specs.Widths.{gmode_bits}
use Rattle.layout_old_modes.proofs.RunModes.{switched-low}
use Rattle.layout_texts.specs.Texts.{run_mode_at}
use Rattle.layout_texts.specs.declared.Text.{Text}
use Rattle.layout_texts.specs.declared.Text.TheVariants.{Of1978, Old}
use Rattle.compare_roles.specs.AsCoded.{RunsBelow}

-- A run mode has four bits.
pub run-low : (text : Text) (m : Machine) (g : ℕ) → gmode_at m g < 2 ^ gmode_bits → run_mode_at text m g < 16
run-low Of1978 m g h = omega arith
run-low Old m g h = switched-low (gmode_at m g) (get_or m (generator_at g + GN) 0)

module _ (text : Text) (m : Machine) (runs : List ℕ) where
  pub filled_none : RunsBelow text m 0 runs
  filled_none = record { at = λ g l. absurd (omega arith); low = λ g l. absurd (omega arith) }

  pub filled_next : (g : ℕ) → length runs ≡ 256 → g < 256 → {run : ℕ} → run ≡ run_mode_at text m g → run_mode_at text m g < 16 → RunsBelow text m g runs → RunsBelow text m (g + 1) (set runs g run)
  filled_next g size inside {run} is small below = record { at = λ h l. here h l (eqb h g) refl; low = λ h l. four h l (eqb h g) refl }
    where
      here : (h : ℕ) → h < g + 1 → (b : Bool) → eqb h g ≡ b → get_or (set runs g run) h 0 ≡ run_mode_at text m h
      here h l true e = let q = eqb-true h g e in rw q (get_or-set_same runs g run 0 (omega (arith, size)) ∙ is)
      here h l false e = let n = eqb-false h g e in get_or-set_other runs g h run 0 n ∙ below.at h (omega (arith, n))

      four : (h : ℕ) → h < g + 1 → (b : Bool) → eqb h g ≡ b → get_or (set runs g run) h 0 < 16
      four h l true e = let q = eqb-true h g e in rw (q, get_or-set_same runs g run 0 (omega (arith, size)), is) small
      four h l false e = let n = eqb-false h g e in rw (get_or-set_other runs g h run 0 n) (below.low h (omega (arith, n)))

  pub filled-all : {g t : ℕ} → g ≡ t → RunsBelow text m g runs → RunsBelow text m t runs
  filled-all e below = rw (← e) below

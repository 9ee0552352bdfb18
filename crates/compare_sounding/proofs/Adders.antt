-- The test of an adding generator by the branches that the code takes.
-- Assumes nothing.
use mathlib.Core.Path.{◌≡◌}
use mathlib.Core.Logic.{◌≢◌}
use mathlib.Core.Bool.{Bool, true, false, and-false}
use Prim.Native.Nat.{ℕ}
use borrow.Author.Tests.{eq-eqb, ne_eqb}
use lib.Dec.{eqb}
use Rattle.layout_modes.specs.Modes.{adds}
use Rattle.layout.specs.Machine.{Machine, gsum_at}
use Rattle.layout_texts.specs.Texts.{run_mode_at}
use Rattle.layout_texts.specs.declared.Text.{Text}
use Rattle.compare_points.specs.AsCoded.{Sides, side_by}
use Rattle.compare_sounding.specs.AsCoded.{adder_on}

module _ (text : Text) (m : Machine) (sides : Sides) (w l g : ℕ) where
  pub another-word : {x : ℕ} → x ≡ gsum_at m g → x ≢ w → true ≡ adder_on text m sides w l g
  unfolding adder_on
  another-word e h = rw (← e, ne_eqb _ w h)

  pub adds_none : {run : ℕ} → run ≡ run_mode_at text m g → adds run ≡ false → true ≡ adder_on text m sides w l g
  unfolding adder_on
  adds_none e h = rw (← e, h, and-false (eqb (gsum_at m g) w))

  pub on-side : {x run : ℕ} → x ≡ gsum_at m g → x ≡ w → run ≡ run_mode_at text m g → adds run ≡ true → {b : Bool} → b ≡ side_by sides l g → b ≡ adder_on text m sides w l g
  unfolding adder_on
  on-side e q f h s = rw (← e, eq-eqb _ w q, ← f, h) s

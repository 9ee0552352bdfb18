-- A DAC number is one of 16.
-- Assumes nothing.
use Prim.Native.Nat.{ℕ, ◌<◌}
use native.Mathlib.Nat.{mod-lt}
use native.Mathlib.Omega.{arith}
use Rattle.layout.specs.Layout.{dacs}
use Rattle.layout.specs.Machine.{Machine}
use Rattle.layout_texts.specs.Texts.{dac_number_at}
use Rattle.layout_texts.specs.declared.Text.{Text}
use Rattle.layout_texts.specs.declared.Text.TheVariants.{Of1978, Old}

pub dac-low : (text : Text) (m : Machine) (g : ℕ) → dac_number_at text m g < dacs
dac-low Of1978 m g = mod-lt _ (omega arith)
dac-low Old m g = mod-lt _ (omega arith)

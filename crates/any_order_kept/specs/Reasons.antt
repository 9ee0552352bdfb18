-- Why a change is refused with 2 (document 02, Q-13).
-- Assumes nothing.
use Rattle.std.specs.Prelude.{◌<◌, ◌≤◌, false, ◌≡◌}
use Rattle.layout.specs.Layout.{generators, dacs}
use Rattle.layout.specs.Machine.{Machine}
use Rattle.layout_texts.specs.declared.Text.TheVariants.{Of1978}
use Rattle.machine.specs.Questions.{valid}
use Rattle.machine_change.specs.Change.{Change, dac_change, tick_fewer, changed_by}

-- The machine fails question 2; the kind is none of the six; it names a generator above 255; it names a DAC above 15; the changed machine fails question 2.
pub data Reason (m : Machine) (c : Change) : Type 0 where
  machine-fails : valid Of1978 m ≡ false → Reason m c
  no_kind : tick_fewer < c.kind → Reason m c
  no-generator : c.kind ≤ dac_change → generators ≤ c.generator → Reason m c
  no-dac : c.kind ≡ dac_change → dacs ≤ c.value → Reason m c
  change-fails : valid Of1978 (changed_by m c) ≡ false → Reason m c

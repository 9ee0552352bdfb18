-- `layout_modes::Rows::new` meets its contract: antt computes the rows.
-- Assumes nothing.
use mathlib.Core.Path.{refl}
use Rattle.base_lists.specs.Lists.{is_one_of, tabulate}
use Rattle.layout_modes.specs.Modes.{oscillator_on, envelope_on, free, adds, replaces, row, rows}
use Rattle.layout_modes.proofs.Rows.new.Goals as goal

pub invariant_of-result : goal.invariant_of-result
unfolding rows tabulate row oscillator_on envelope_on free adds replaces is_one_of
invariant_of-result c = record { right = refl }

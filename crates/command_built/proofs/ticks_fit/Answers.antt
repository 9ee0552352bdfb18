-- `command_built::ticks_fit` meets its contract: its parts are fields.
-- Assumes nothing.
use mathlib.Core.Path.{refl}
use Rattle.command_built.specs.Built.{ticks_fit}
use Rattle.command_built.proofs.ticks_fit.Goals as goal

pub returns : goal.returns
unfolding ticks_fit
returns c = rw (c.field.ensures, c.flag.ensures, c.field-2.ensures) refl

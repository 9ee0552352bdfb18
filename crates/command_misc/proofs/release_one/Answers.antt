-- `command_misc::release_one` meets its contract: its two arms by the run mode.
-- Assumes nothing.
use borrow.Author.Tests.{eq-eqb, ne_eqb}
use mathlib.Core.Path.{refl}
use Rattle.command_misc.specs.Misc.{released_one}
use Rattle.command_misc.proofs.release_one.Goals as goal

pub returns-then-gmode-run : goal.returns-then-gmode-run
unfolding released_one
returns-then-gmode-run c = rw (eq-eqb _ _ c.if-gmode-run.true) refl

pub returns-else-gmode-run : goal.returns-else-gmode-run
unfolding released_one
returns-else-gmode-run c = rw (ne_eqb _ _ c.if-gmode-run.false) refl

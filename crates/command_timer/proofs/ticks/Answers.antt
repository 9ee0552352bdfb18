-- `command_timer::ticks` meets its contract: its two arms by Q, each with the update ticks of the T and N that it leaves.
-- Assumes nothing.
use Rattle.command_timer.proofs.Lingers.{ticks-n, ticks-t}
use Rattle.command_timer.proofs.ticks.Goals as goal

pub returns-then-flag : goal.returns-then-flag
returns-then-flag c = ticks-n c.args.m.now c.requires c.args.c c.field-data.ensures c.flag.ensures c.if-flag.true c.update_ticks.ensures

pub returns-else-flag : goal.returns-else-flag
returns-else-flag c = ticks-t c.args.m.now c.requires c.args.c c.field-data.ensures c.flag.ensures c.if-flag.false c.update_ticks-else-flag.ensures

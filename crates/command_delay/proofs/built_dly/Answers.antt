-- `command_delay::built_dly` meets its contract: its arms by UU.
-- Assumes nothing.
use Rattle.command_delay.proofs.DelayFields.{uu-11-not-built, mode-judged, x-and-y-built}
use Rattle.command_delay.proofs.built_dly.Goals as goal

pub returns-in-3 : goal.returns-in-3
returns-in-3 c = uu-11-not-built c.args.c c.field.ensures c.in-3.is

pub returns-in-2 : goal.returns-in-2
returns-in-2 c = mode-judged c.args.c c.field.ensures c.in-2.is c.field-in-2.ensures c.built_mode.ensures

pub returns-in_default : goal.returns-in_default
returns-in_default c =
    let others = c.in_default.in_default-own.rest in
    x-and-y-built c.args.c c.field.ensures others.0.1 others.1

-- `command_timer::timer` meets its contract: its arms by TT.
-- Assumes nothing.
use Rattle.std.proofs.Common.{arith}
use Rattle.command_timer.proofs.Lingers.{timer-sets, timer-lingers, timer-clears, timer-idle}
use Rattle.command_timer.proofs.timer.Goals as goal

pub returns-in-1 : goal.returns-in-1
returns-in-1 c =
    let a = c.args in
    timer-sets a.m.now a.c c.field-data.ensures c.field.ensures c.in-1.is c.set_counter.ensures

pub returns-in-2 : goal.returns-in-2
returns-in-2 c =
    let a = c.args in
    timer-lingers a.m.now a.c c.field-data.ensures c.field.ensures c.in-2.is c.linger.ensures

pub returns-in-3 : goal.returns-in-3
returns-in-3 c =
    let a = c.args in
    timer-clears a.m.now a.c c.field-data.ensures c.field.ensures c.in-3.is c.set_counter-in-3.ensures c.linger-in-3.ensures

pub returns-in_default : goal.returns-in_default
returns-in_default c =
    let a = c.args in
    timer-idle a.m.now a.c c.field-data.ensures c.field.ensures (omega arith) (omega arith) (omega arith)

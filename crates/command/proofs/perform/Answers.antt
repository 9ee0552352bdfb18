-- `command::perform` meets its contract: its arms by the code.
-- Assumes nothing.
use native.Mathlib.Omega.{arith}
use Rattle.command.proofs.Turns.{does-misc, does-delay, does-timer, does-ticks, does-generator-load, does-modifier-load}
use Rattle.command.proofs.perform.Goals as goal

pub returns-in-0 : goal.returns-in-0
returns-in-0 c =
    let a = c.args in
    does-misc a.m.now a.c c.field.ensures c.in-0.is c.miscellany.ensures

pub returns-in-1 : goal.returns-in-1
returns-in-1 c =
    let a = c.args in
    does-delay a.m.now a.c c.field.ensures c.in-1.is c.load.ensures

pub returns-in-2 : goal.returns-in-2
returns-in-2 c =
    let a = c.args in
    does-timer a.m.now a.c c.field.ensures c.in-2.is c.timer.ensures

pub returns-in-3 : goal.returns-in-3
returns-in-3 c =
    let a = c.args in
    does-ticks a.m.now a.c c.field.ensures c.in-3.is c.ticks.ensures

pub returns-in-4-to-23 : goal.returns-in-4-to-23
returns-in-4-to-23 c =
    let a = c.args in
    does-generator-load a.m.now a.c c.field.ensures (omega arith) (omega arith) (omega arith) (omega arith) (omega arith) c.load-in-4-to-23.ensures

pub returns-in_default : goal.returns-in_default
returns-in_default c =
    let a = c.args in
    does-modifier-load a.m.now a.c c.field.ensures (omega arith) (omega arith) (omega arith) (omega arith) (omega arith) c.load-in_default.ensures

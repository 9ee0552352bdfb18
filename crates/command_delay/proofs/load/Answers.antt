-- `command_delay::load` meets its contract: its arms by UU.
-- Assumes nothing.
use native.Mathlib.Omega.{arith}
use lib.ListN.{length-set}
use Rattle.command_delay.proofs.DelayFields.{loads-x, loads-y, loads-z-and-p, loads-nothing}
use Rattle.command_delay.proofs.load.Goals as goal

pub returns-in-0 : goal.returns-in-0
returns-in-0 c =
    let a = c.args in
    loads-x a.c c.field-2.ensures a.m.now c.field.ensures c.field-data.ensures c.in-0.is

pub returns-in-1 : goal.returns-in-1
returns-in-1 c =
    let a = c.args in
    loads-y a.c c.field-2.ensures a.m.now c.field.ensures c.field-data.ensures c.in-1.is

pub returns-in-2 : goal.returns-in-2
returns-in-2 c =
    let a = c.args in
    loads-z-and-p a.c c.field-2.ensures a.m.now c.field.ensures c.field-data.ensures c.in-2.is c.field-in-2.ensures

pub returns-in_default : goal.returns-in_default
returns-in_default c =
    let others = c.in_default.in_default-own.rest in
    let a = c.args in
    loads-nothing a.c c.field-2.ensures a.m.now c.field.ensures c.field-data.ensures others.0.0.1 others.0.1 others.1

pub bounds-m-u-in-0 : goal.bounds-m-u-in-0
bounds-m-u-in-0 c = simp length-set (omega arith)

pub bounds-m-u-in-2-2 : goal.bounds-m-u-in-2-2
bounds-m-u-in-2-2 c = simp length-set (omega arith)

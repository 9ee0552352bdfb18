-- `command_misc::load_dx` meets its contract: RR is a field.
-- Assumes nothing.
use Rattle.command_misc.proofs.Releases.{dx-loads, dx-stays}
use Rattle.command_misc.proofs.load_dx.Goals as goal

pub returns-then-field-eq1 : goal.returns-then-field-eq1
returns-then-field-eq1 c =
    let a = c.args in
    dx-loads a.m.now a.c c.field.ensures c.field-then-field-eq1.ensures c.if-field-eq1.true

pub returns-else-field-eq1 : goal.returns-else-field-eq1
returns-else-field-eq1 c =
    let a = c.args in
    dx-stays a.m.now a.c c.field.ensures c.if-field-eq1.false

-- `command_update::run` meets its contract: what is left to take is the whole.
-- Assumes nothing.
use mathlib.Core.Path.{refl}
use native.Mathlib.Omega.{arith}
use Rattle.base_questions.proofs.Refusals.{numbered}
use Rattle.command_update.proofs.Taking.{begins, ends-most, ends-empty, ends-refused, ends-waiting, goes_on}
use Rattle.command_update.proofs.run.Goals as goal

pub loop-i-init : goal.loop-i-init
loop-i-init c = begins _ _ _

pub returns-then-i-most : goal.returns-then-i-most
returns-then-i-most c = (omega arith, ends-most c.loop-i.invariant c.if-i-most.true)

pub returns-in-Ok-true : goal.returns-in-Ok-true
returns-in-Ok-true c =
    let q = c.in-Ok-true.ensures in
    (omega arith, ends-waiting c.loop-i.invariant c.if-i-most.false c.loop-i-test.true q.0 q.1 q.2 refl c.in-Ok-true.field-0-test)

pub returns-in-Err : goal.returns-in-Err
returns-in-Err c =
    let q = c.in-Err.ensures in
    (omega arith, ends-refused c.loop-i.invariant c.if-i-most.false c.loop-i-test.true q.0 q.1 q.2 (numbered _))

pub loop-i-preserved : goal.loop-i-preserved
loop-i-preserved c =
    let q = c.in-Ok-false.ensures in
    goes_on c.loop-i.invariant c.if-i-most.false c.loop-i-test.true q.0 q.1 q.2 refl c.in-Ok-false.field-0-test c.take.auto.m

pub returns : goal.returns
returns c = (omega arith, ends-empty c.loop-i.invariant c.loop-i-test.false)

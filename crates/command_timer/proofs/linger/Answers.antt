-- `command_timer::linger` meets its contract: ahead, behind, or at the counter.
-- Assumes nothing.
use Rattle.std.proofs.Common.{arith, length-set}
use Rattle.layout.specs.Layout.{counter_at}
use Rattle.command_timer.proofs.Lingers.{behind-wrapped, linger-waits, linger-late, linger-now}
use Rattle.command_timer.proofs.linger.Goals as goal

pub returns-then-behind-gt4096 : goal.returns-then-behind-gt4096
returns-then-behind-gt4096 c =
    let a = c.args in
    linger-waits a.m.now a.n (behind-wrapped a.m.now a.n (omega (arith, c.slice_known-1.given counter_at)) (omega arith)) c.if-behind-gt4096.true

pub returns-then-behind-ne0 : goal.returns-then-behind-ne0
returns-then-behind-ne0 c =
    let a = c.args in
    linger-late a.m.now a.n (behind-wrapped a.m.now a.n (omega (arith, c.slice_known-1.given counter_at)) (omega arith)) c.if-behind-gt4096.false c.if-behind-ne0.true

pub returns-else-behind-ne0 : goal.returns-else-behind-ne0
returns-else-behind-ne0 c =
    let a = c.args in
    linger-now a.m.now a.n (behind-wrapped a.m.now a.n (omega (arith, c.slice_known-1.given counter_at)) (omega arith)) c.if-behind-gt4096.false c.if-behind-ne0.false

pub bounds-m-4117 : goal.bounds-m-4117
bounds-m-4117 c = simp length-set (omega arith)

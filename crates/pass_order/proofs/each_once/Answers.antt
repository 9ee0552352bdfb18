-- `pass_order::each_once` meets its contract: the entries left, with the marks of those passed, answer for the whole order.
-- Assumes nothing.
use mathlib.Core.Path.{sym, ◌∙◌}
use native.Mathlib.Omega.{arith}
use Rattle.pass_order.proofs.Marks.{unmarked-next, unmarked-stop, unmarked-end, marks-once}
use Rattle.pass_order.proofs.each_once.Goals as goal

pub loop-entry-init : goal.loop-entry-init
loop-entry-init c = marks-once c.args.t c.args.order.now c.requires.0 c.requires.1

pub returns-then-not-mark : goal.returns-then-not-mark
returns-then-not-mark c =
    let a = c.args in
    let e = sym c.mark.ensures.value ∙ c.if-not-mark.true in
    sym (unmarked-stop a.t c.loop-entry.marks a.order.now c.loop-entry.entry-index (omega arith) e) ∙ c.loop-entry.invariant

pub loop-entry-preserved : goal.loop-entry-preserved
loop-entry-preserved c =
    let a = c.args in
    let e = sym c.mark.ensures.value ∙ c.if-not-mark.false in
    rw c.mark.ensures.marks_after (unmarked-next a.t c.loop-entry.marks a.order.now c.loop-entry.entry-index (omega arith) e) ∙ c.loop-entry.invariant

pub returns : goal.returns
returns c =
    let a = c.args in
    sym (unmarked-end a.t c.loop-entry.marks a.order.now c.loop-entry.entry-index (omega arith)) ∙ c.loop-entry.invariant

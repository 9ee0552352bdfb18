-- `compare::refusal` meets its contract: the questions are asked two by two, and each pair that passes leaves the next.
-- Assumes nothing.
use mathlib.Core.Path.{sym, ◌∙◌}
use Rattle.base_questions.proofs.Refusals.{numbered, handed_on}
use Rattle.compare.proofs.Asked.{is-traceable, refused-first, refused-second, refused-third}
use Rattle.compare.proofs.refusal.Goals as goal

pub returns-in_err-refusal : goal.returns-in_err-refusal
returns-in_err-refusal c =
    let a = c.args in
    handed_on _ _ c.from_residual.ensures.1 ∙ refused-first a.text a.m.now a.first.now a.second.now c.in_err-refusal.ensures (numbered _)

pub ticks-t-requires : goal.ticks-t-requires
ticks-t-requires c =
    let a = c.args in
    (is-traceable a.text a.m.now (sym c.in_ok-refusal.ensures)).reaches

pub order_refusal-requires : goal.order_refusal-requires
order_refusal-requires c =
    let a = c.args in
    rw c.ticks-t.ensures (is-traceable a.text a.m.now (sym c.in_ok-refusal.ensures)).ticks

pub returns-in_err-order_refusal : goal.returns-in_err-order_refusal
returns-in_err-order_refusal c =
    let a = c.args in
    handed_on _ _ c.from_residual-in_err-order_refusal.ensures.1
    ∙ refused-second a.text a.m.now a.first.now a.second.now (sym c.in_ok-refusal.ensures) (rw c.ticks-t.ensures at c.in_err-order_refusal.ensures) (numbered _)

pub order_refusal-requires-2 : goal.order_refusal-requires-2
order_refusal-requires-2 c =
    let a = c.args in
    rw c.ticks-t.ensures (is-traceable a.text a.m.now (sym c.in_ok-refusal.ensures)).ticks

pub returns : goal.returns
returns c =
    let a = c.args in
    let t = c.ticks-t.ensures in
    refused-third a.text a.m.now a.first.now a.second.now (sym c.in_ok-refusal.ensures)
    (sym (rw t at c.in_ok-order_refusal.ensures)) (rw t at c.order_refusal-2.ensures)

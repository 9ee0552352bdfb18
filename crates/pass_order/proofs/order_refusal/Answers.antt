-- `pass_order::order_refusal` meets its contract: the two questions are asked in sequence, branch by branch.
-- Assumes nothing.
use mathlib.Core.Path.{◌≡◌, refl, sym, ◌∙◌}
use mathlib.Core.Bool.{true, false}
use borrow.Author.Tests.{eq-eqb, ne_eqb}
use Rattle.base_questions.specs.Questions.{asked}
use Rattle.pass_order.specs.Order.{each_once}
use Rattle.pass_order.proofs.order_refusal.Goals as goal

pub returns-then-order-t : goal.returns-then-order-t
unfolding asked
returns-then-order-t c = rw (ne_eqb _ _ c.if-order-t.true) refl

pub returns-then-not-each_once : goal.returns-then-not-each_once
unfolding asked
returns-then-not-each_once c =
    let a = c.args in
    let o : each_once a.t a.order.now ≡ false = sym c.each_once.ensures ∙ c.if-not-each_once.true in
    rw (eq-eqb _ _ c.if-order-t.false, o) refl

pub returns : goal.returns
unfolding asked
returns c =
    let a = c.args in
    let o : each_once a.t a.order.now ≡ true = sym c.each_once.ensures ∙ c.if-not-each_once.false in
    rw (eq-eqb _ _ c.if-order-t.false, o) refl

-- `compare_sounding::sounding` meets its contract: what the traces hold of the word decides, branch by branch.
-- Assumes nothing.
use mathlib.Core.Path.{◌∙◌}
use Rattle.compare_sounding.proofs.FailingWord.{some-last, last_within, another-last, another-place, another-side}
use Rattle.compare_sounding.proofs.sounding.Goals as goal

pub overflow_sub-l : goal.overflow_sub-l
overflow_sub-l c =
    let o = c.args.orders.now in
    some-last o.text o.m.now o.first.now o.second.now o.traceable (o.first_order, o.second_order) o.first_traced o.second_traced c.args.w c.requires c.wide-l.ensures

pub returns-then-first-w : goal.returns-then-first-w
returns-then-first-w c =
    let o = c.args.orders.now in
    another-last o.text o.m.now o.first.now o.second.now o.traceable (o.first_order, o.second_order) o.first_traced o.second_traced c.args.w c.requires c.wide-l.ensures c.if-first-w.true

pub returns-then-first-w-2 : goal.returns-then-first-w-2
returns-then-first-w-2 c =
    let o = c.args.orders.now in
    another-place o.text o.m.now o.first.now o.second.now o.traceable (o.first_order, o.second_order) o.first_traced o.second_traced c.args.w c.requires c.if-first-w.false c.if-first-w-2.true

pub adder_point-requires : goal.adder_point-requires
adder_point-requires c =
    let o = c.args.orders.now in
    last_within o.text o.m.now o.first.now o.second.now o.traceable (o.first_order, o.second_order) o.first_traced o.second_traced c.args.w c.requires c.wide-l.ensures

pub returns : goal.returns
returns c =
    let o = c.args.orders.now in
    c.adder_point.ensures
    ∙ another-side o.text o.m.now o.first.now o.second.now o.traceable (o.first_order, o.second_order) o.first_traced o.second_traced c.args.w c.requires c.if-first-w.false c.if-first-w-2.false c.wide-l.ensures

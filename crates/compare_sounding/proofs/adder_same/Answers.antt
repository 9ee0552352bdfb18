-- `compare_sounding::adder_same` meets its contract: each branch decides the test.
-- Assumes nothing.
use mathlib.Core.Path.{sym, ◌∙◌}
use Rattle.compare_points.specs.AsCoded.{sides}
use Rattle.compare_sounding.proofs.Adders.{another-word, adds_none, on-side}
use Rattle.compare_sounding.proofs.adder_same.Goals as goal

pub returns-then-gsum-w : goal.returns-then-gsum-w
returns-then-gsum-w c =
    let a = c.args in
    let o = a.orders.now in
    another-word o.text o.m.now (sides o.first_trace.now o.second_trace.now) a.w a.l a.g c.gsum.ensures c.if-gsum-w.true

pub returns-then-not-adding : goal.returns-then-not-adding
returns-then-not-adding c =
    let a = c.args in
    let o = a.orders.now in
    adds_none o.text o.m.now (sides o.first_trace.now o.second_trace.now) a.w a.l a.g c.run_mode.ensures (sym c.adding.ensures ∙ c.if-not-adding.true)

pub returns : goal.returns
returns c =
    let a = c.args in
    let o = a.orders.now in
    on-side o.text o.m.now (sides o.first_trace.now o.second_trace.now) a.w a.l a.g c.gsum.ensures c.if-gsum-w.false c.run_mode.ensures
    (sym c.adding.ensures ∙ c.if-not-adding.false) c.same_side.ensures

-- `compare_sounding::adder_point` meets its contract: the test passes at the generators passed.
-- Assumes nothing.
use mathlib.Core.Path.{◌≡◌, sym, ap, ◌∙◌}
use native.Mathlib.Omega.{arith}
use Rattle.layout.specs.Machine.{ticks_of}
use Rattle.base_sequences.specs.Sequences.{first_failing}
use Rattle.base_sequences.proofs.Loops.{failing-zero, failing-next, failing-here}
use Rattle.compare_points.specs.AsCoded.{sides}
use Rattle.compare_sounding.specs.AsCoded.{adder_on}
use Rattle.compare_sounding.proofs.adder_point.Goals as goal

pub loop-g-init : goal.loop-g-init
loop-g-init c = failing-zero _

pub returns-then-not-adder_same : goal.returns-then-not-adder_same
returns-then-not-adder_same c =
    let a = c.args in
    let o = a.orders.now in
    sym (failing-here (adder_on o.text o.m.now (sides o.first_trace.now o.second_trace.now) a.w a.l) c.loop-g.g (ticks_of o.m.now) (omega (arith, c.ticks-t.ensures)) c.loop-g.invariant
    (sym c.adder_same.ensures ∙ c.if-not-adder_same.true))

pub loop-g-preserved : goal.loop-g-preserved
loop-g-preserved c =
    let a = c.args in
    let o = a.orders.now in
    failing-next (adder_on o.text o.m.now (sides o.first_trace.now o.second_trace.now) a.w a.l) c.loop-g.g c.loop-g.invariant (sym c.adder_same.ensures ∙ c.if-not-adder_same.false)

pub returns : goal.returns
returns c =
    let a = c.args in
    let o = a.orders.now in
    let e : c.loop-g.g ≡ c.ticks-t.result = omega arith in
    let f : c.loop-g.g ≡ ticks_of o.m.now = e ∙ c.ticks-t.ensures in
    sym e ∙ sym c.loop-g.invariant ∙ ap (first_failing (adder_on o.text o.m.now (sides o.first_trace.now o.second_trace.now) a.w a.l)) f

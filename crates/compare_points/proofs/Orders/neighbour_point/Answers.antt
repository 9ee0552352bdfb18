-- `compare_points::Orders::neighbour_point` meets its contract: the point holds at the generators passed.
-- Assumes nothing.
use mathlib.Core.Path.{sym, ap, ◌∙◌}
use native.Mathlib.Omega.{arith}
use Rattle.base_sequences.proofs.Loops.{failing-zero, failing-next}
use Rattle.layout.specs.Machine.{ticks_of}
use Rattle.compare_points.specs.AsCoded.{sides, neighbour_by, where_failing}
use Rattle.compare_points.proofs.Failing.{fails_there, fails_nowhere}
use Rattle.compare_points.proofs.Neighbours.{neighbours-held}
use Rattle.compare_points.proofs.Orders.neighbour_point.Goals as goal

pub loop-g-init : goal.loop-g-init
loop-g-init c = failing-zero _

pub returns-then-not-neighbour_same : goal.returns-then-not-neighbour_same
returns-then-not-neighbour_same c =
    let o = c.args.self.now in
    fails_there (neighbour_by o.text o.m.now (sides o.first_trace.now o.second_trace.now)) c.loop-g.invariant (omega (arith, c.ticks-g-end.ensures))
    (sym c.neighbour_same.ensures ∙ c.if-not-neighbour_same.true)
    ∙ ap (where_failing (ticks_of o.m.now)) (neighbours-held o.text o.m.now o.first.now o.second.now o.traceable (o.first_order, o.second_order) o.first_traced o.second_traced)

pub loop-g-preserved : goal.loop-g-preserved
loop-g-preserved c =
    let o = c.args.self.now in
    failing-next (neighbour_by o.text o.m.now (sides o.first_trace.now o.second_trace.now)) c.loop-g.g c.loop-g.invariant (sym c.neighbour_same.ensures ∙ c.if-not-neighbour_same.false)

pub returns : goal.returns
returns c =
    let o = c.args.self.now in
    fails_nowhere (neighbour_by o.text o.m.now (sides o.first_trace.now o.second_trace.now)) c.loop-g.invariant (omega (arith, c.ticks-g-end.ensures))
    ∙ ap (where_failing (ticks_of o.m.now)) (neighbours-held o.text o.m.now o.first.now o.second.now o.traceable (o.first_order, o.second_order) o.first_traced o.second_traced)

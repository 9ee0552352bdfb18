-- `compare_points::Orders::neighbour_same` meets its contract: what is awaited decides the test of the first point.
-- Assumes nothing.
use mathlib.Core.Path.{sym, ◌∙◌}
use Rattle.compare_points.specs.AsCoded.{sides}
use Rattle.compare_points.proofs.Asked.{not-waiting, nothing-awaited, by-sides}
use Rattle.compare_points.proofs.Orders.neighbour_same.Goals as goal

pub returns-then-run_at-ne-WAIT : goal.returns-then-run_at-ne-WAIT
returns-then-run_at-ne-WAIT c =
    let o = c.args.self.now in
    nothing-awaited o.text o.m.now (sides o.first_trace.now o.second_trace.now) c.args.g (not-waiting o.text o.m.now c.args.g c.run_at.ensures c.if-run_at-ne-WAIT.true)

pub returns-then-not-awaits : goal.returns-then-not-awaits
returns-then-not-awaits c =
    let o = c.args.self.now in
    nothing-awaited o.text o.m.now (sides o.first_trace.now o.second_trace.now) c.args.g (sym c.awaits.ensures ∙ c.if-not-awaits.true)

pub returns : goal.returns
returns c =
    let o = c.args.self.now in
    c.same_side.ensures ∙ by-sides o.text o.m.now (sides o.first_trace.now o.second_trace.now) c.args.g (sym c.awaits.ensures ∙ c.if-not-awaits.false) c.distance-distance.ensures

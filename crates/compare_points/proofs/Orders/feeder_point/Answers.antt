-- `compare_points::Orders::feeder_point` meets its contract: the first difference of what the traces hold is the point.
-- Assumes nothing.
use mathlib.Core.Path.{ap, ◌∙◌}
use Rattle.layout.specs.Layout.{dacs}
use Rattle.compare_points.specs.AsCoded.{where_failing}
use Rattle.compare_points.proofs.Differences.{feeders-held}
use Rattle.compare_points.proofs.Orders.feeder_point.Goals as goal

pub returns : goal.returns
returns c =
    let o = c.args.self.now in
    c.first_difference.ensures
    ∙ ap (where_failing dacs) (feeders-held o.text o.m.now o.first.now o.second.now o.traceable (o.first_order, o.second_order) o.first_traced o.second_traced)

-- `compare_points::Orders::writer_point` meets its contract: the first difference of what the traces hold is the point.
-- Assumes nothing.
use mathlib.Core.Path.{◌∙◌}
use native.Mathlib.Omega.{arith}
use Rattle.compare_points.proofs.Differences.{few-writers, writers-fail}
use Rattle.compare_points.proofs.Orders.writer_point.Goals as goal

pub first_difference-requires : goal.first_difference-requires
first_difference-requires c =
    let o = c.args.self.now in
    let few = few-writers o.text o.m.now o.first.now o.second.now o.traceable (o.first_order, o.second_order) o.first_traced o.second_traced in
    (omega (arith, few), omega (arith, few))

pub returns : goal.returns
returns c =
    let o = c.args.self.now in
    c.first_difference.ensures
    ∙ writers-fail o.text o.m.now o.first.now o.second.now o.traceable (o.first_order, o.second_order) o.first_traced o.second_traced

-- `compare_points::Orders::adders` meets its contract: the marks are those of the generators passed.
-- Assumes nothing.
use mathlib.Core.Path.{◌≡◌, ap, ◌∙◌}
use native.Mathlib.Omega.{arith}
use Rattle.base_lists.specs.Lists.{zeros}
use Rattle.layout.specs.Machine.{ticks_of}
use Rattle.compare_points.specs.AsCoded.{sides, marks_of}
use Rattle.compare_points.proofs.ReplacedWords.{marked-none, marked_next}
use Rattle.compare_points.proofs.Orders.adders.Goals as goal

pub loop-g-init : goal.loop-g-init
unfolding zeros
loop-g-init c =
    let o = c.args.self.now in
    marked-none o.text o.m.now (sides o.first_trace.now o.second_trace.now) o.first_trace.now.replaced.last

pub loop-g-preserved : goal.loop-g-preserved
loop-g-preserved c =
    let o = c.args.self.now in
    marked_next o.text o.m.now (sides o.first_trace.now o.second_trace.now) o.first_trace.now.replaced.last c.loop-g.g c.loop-g.invariant c.adder.ensures

pub returns : goal.returns
returns c =
    let o = c.args.self.now in
    let e : c.loop-g.g ≡ ticks_of o.m.now = omega (arith, c.ticks-g-end.ensures) in
    c.loop-g.invariant ∙ ap (marks_of o.text o.m.now (sides o.first_trace.now o.second_trace.now) o.first_trace.now.replaced.last) e

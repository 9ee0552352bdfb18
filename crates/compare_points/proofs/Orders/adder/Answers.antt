-- `compare_points::Orders::adder` meets its contract: each branch decides whether the word is marked.
-- Assumes nothing.
use mathlib.Core.Path.{sym, ◌∙◌}
use native.Mathlib.Omega.{arith}
use Rattle.compare_points.specs.AsCoded.{sides}
use Rattle.compare_points.proofs.Asked.{no_add, no-replaced, one_side, two-sides}
use Rattle.compare_points.proofs.ReplacedWords.{lasts-within}
use Rattle.compare_points.proofs.Orders.adder.Goals as goal

pub returns-then-not-adding : goal.returns-then-not-adding
returns-then-not-adding c =
    let o = c.args.self.now in
    no_add o.text o.m.now (sides o.first_trace.now o.second_trace.now) o.first_trace.now.replaced.last c.args.marks.now c.args.g c.run_at.ensures (sym c.adding.ensures ∙ c.if-not-adding.true)

pub returns-then-l-eq0 : goal.returns-then-l-eq0
returns-then-l-eq0 c =
    let o = c.args.self.now in
    no-replaced o.text o.m.now (sides o.first_trace.now o.second_trace.now) o.first_trace.now.replaced.last c.args.marks.now c.args.g c.run_at.ensures (sym c.adding.ensures ∙ c.if-not-adding.false)
    c.gsum-w.ensures c.wide-l.ensures c.if-l-eq0.true

pub same_side-requires : goal.same_side-requires
same_side-requires c =
    let o = c.args.self.now in
    let low = o.traceable.gsums c.args.g (omega (arith, c.requires, o.traceable.ticks)) in
    let within = (lasts-within o.text o.m.now o.first.now o.traceable o.first_order o.first_traced).within c.gsum-w.result (omega (arith, c.gsum-w.ensures, low)) in
    (omega (arith, c.wide-l.ensures, within), omega (arith, c.requires, o.traceable.ticks))

pub returns-then-same_side : goal.returns-then-same_side
returns-then-same_side c =
    let o = c.args.self.now in
    one_side o.text o.m.now (sides o.first_trace.now o.second_trace.now) o.first_trace.now.replaced.last c.args.marks.now c.args.g c.run_at.ensures (sym c.adding.ensures ∙ c.if-not-adding.false)
    c.gsum-w.ensures c.wide-l.ensures c.if-l-eq0.false (sym c.same_side.ensures ∙ c.if-same_side.true)

pub returns : goal.returns
returns c =
    let o = c.args.self.now in
    two-sides o.text o.m.now (sides o.first_trace.now o.second_trace.now) o.first_trace.now.replaced.last c.args.marks.now c.args.g c.run_at.ensures (sym c.adding.ensures ∙ c.if-not-adding.false)
    c.gsum-w.ensures c.wide-l.ensures c.if-l-eq0.false (sym c.same_side.ensures ∙ c.if-same_side.false)

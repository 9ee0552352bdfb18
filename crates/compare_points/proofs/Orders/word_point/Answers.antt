-- `compare_points::Orders::word_point` meets its contract: the words are compared by what the traces hold and by the marks of the adding generators.
-- Assumes nothing.
use mathlib.Core.Path.{sym, ap, ◌∙◌}
use native.Mathlib.Omega.{arith}
use Rattle.base_sequences.proofs.Loops.{failing-zero, failing-next}
use Rattle.layout.specs.Layout.{quadrant_words}
use Rattle.compare_points.specs.AsCoded.{word_by, where_failing}
use Rattle.compare_points.proofs.Failing.{fails_there, fails_nowhere}
use Rattle.compare_points.proofs.ReplacedWords.{words-held}
use Rattle.compare_points.proofs.Orders.word_point.Goals as goal

pub loop-w-init : goal.loop-w-init
loop-w-init c = failing-zero _

pub returns-then-not-word_same : goal.returns-then-not-word_same
returns-then-not-word_same c =
    let o = c.args.self.now in
    fails_there (word_by o.first_trace.now.replaced o.second_trace.now.replaced c.adders-marks.result) c.loop-w.invariant (omega arith)
    (sym c.word_same.ensures ∙ c.if-not-word_same.true)
    ∙ ap (where_failing quadrant_words) (words-held o.text o.m.now o.first.now o.second.now o.traceable (o.first_order, o.second_order) o.first_traced o.second_traced c.adders-marks.ensures)

pub loop-w-preserved : goal.loop-w-preserved
loop-w-preserved c =
    let o = c.args.self.now in
    failing-next (word_by o.first_trace.now.replaced o.second_trace.now.replaced c.adders-marks.result) c.loop-w.w c.loop-w.invariant (sym c.word_same.ensures ∙ c.if-not-word_same.false)

pub returns : goal.returns
returns c =
    let o = c.args.self.now in
    fails_nowhere (word_by o.first_trace.now.replaced o.second_trace.now.replaced c.adders-marks.result) c.loop-w.invariant (omega arith)
    ∙ ap (where_failing quadrant_words) (words-held o.text o.m.now o.first.now o.second.now o.traceable (o.first_order, o.second_order) o.first_traced o.second_traced c.adders-marks.ensures)

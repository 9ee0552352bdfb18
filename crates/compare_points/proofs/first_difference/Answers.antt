-- `compare_points::first_difference` meets its contract: the places passed hold the same numbers.
-- Assumes nothing.
use native.Mathlib.Omega.{arith}
use borrow.Author.Tests.{eq-eqb, ne_eqb}
use Rattle.base_sequences.proofs.Loops.{failing-zero, failing-next}
use Rattle.compare_points.specs.AsCoded.{same_at}
use Rattle.compare_points.proofs.Failing.{fails_there, fails_nowhere}
use Rattle.compare_points.proofs.first_difference.Goals as goal

pub loop-i-init : goal.loop-i-init
loop-i-init c = failing-zero _

pub returns-then-first-i : goal.returns-then-first-i
unfolding same_at
returns-then-first-i c =
    let a = c.args in
    fails_there (same_at a.first.now a.second.now) c.loop-i.invariant (omega arith) (ne_eqb _ _ c.if-first-i.true)

pub loop-i-preserved : goal.loop-i-preserved
unfolding same_at
loop-i-preserved c =
    let a = c.args in
    failing-next (same_at a.first.now a.second.now) c.loop-i.i c.loop-i.invariant (eq-eqb _ _ c.if-first-i.false)

pub returns : goal.returns
returns c =
    let a = c.args in
    fails_nowhere (same_at a.first.now a.second.now) c.loop-i.invariant (omega arith)

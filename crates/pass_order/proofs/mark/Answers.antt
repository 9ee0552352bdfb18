-- `pass_order::mark` meets its contract: its two tests and its store are the definition's, branch by branch.
use mathlib.Core.Path.{refl}
use borrow.Author.Tests.{lt-ltb, le-ltb}
use Rattle.pass_order.specs.AsCoded.{unmarked, number_marked}
use Rattle.pass_order.proofs.mark.Goals as goal

pub returns-then-t-g : goal.returns-then-t-g
unfolding unmarked number_marked
returns-then-t-g c = record { value = rw (le-ltb _ _ c.if-t-g.true) refl; marks_after = rw (le-ltb _ _ c.if-t-g.true) refl }

pub returns-then-marks-g : goal.returns-then-marks-g
unfolding unmarked number_marked
returns-then-marks-g c =
    let low = lt-ltb _ _ c.if-t-g.false in record { value = rw (low, c.if-marks-g.true) refl; marks_after = rw (low, c.if-marks-g.true) refl }

pub returns : goal.returns
unfolding unmarked number_marked
returns c =
    let low = lt-ltb _ _ c.if-t-g.false in record { value = rw (low, c.if-marks-g.false) refl; marks_after = rw (low, c.if-marks-g.false) refl }

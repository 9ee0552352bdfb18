-- `parts_contents::contents` meets its contract: the contents are chosen by the point.
-- Assumes nothing.
use borrow.Author.Tests.{eq-eqb, ne_eqb}
use Rattle.parts_model.specs.Contents.{contents_for}
use Rattle.parts_contents.proofs.contents.Goals as goal

pub returns-then-point-eq1 : goal.returns-then-point-eq1
unfolding contents_for
returns-then-point-eq1 c = rw (eq-eqb _ 1 c.if-point-eq1.true) c.triggering.ensures

pub returns-then-point-eq4 : goal.returns-then-point-eq4
unfolding contents_for
returns-then-point-eq4 c = rw (ne_eqb _ 1 c.if-point-eq1.false, eq-eqb _ 4 c.if-point-eq4.true) c.sounding.ensures

pub returns : goal.returns
unfolding contents_for
returns c = rw (ne_eqb _ 1 c.if-point-eq1.false, ne_eqb _ 4 c.if-point-eq4.false) c.sending.ensures

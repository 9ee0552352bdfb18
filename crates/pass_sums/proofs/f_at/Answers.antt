-- `pass_sums::f_at` meets its contract: each arm is its side of GFM's top bit.
-- Assumes nothing.
use borrow.Author.Tests.{eq-eqb, ne_eqb}
use Rattle.pass_sums.specs.Sums.{f_at}
use Rattle.pass_sums.proofs.f_at.Goals as goal

pub returns-then-gfm-eq0 : goal.returns-then-gfm-eq0
unfolding f_at
returns-then-gfm-eq0 c = rw (eq-eqb _ 0 c.if-gfm-eq0.true) c.quadrant_word.ensures

pub returns : goal.returns
unfolding f_at
returns c = rw (ne_eqb _ 0 c.if-gfm-eq0.false) c.quadrant_word-2.ensures

-- `put` meets its contract by MSUM's top bit: S is added, or replaces the word.
use mathlib.Core.Path.{refl}
use borrow.Author.Tests.{eq-eqb, ne_eqb}
use Rattle.pass_model.specs.Modifiers.{with_write}
use Rattle.pass_views.specs.AsCoded.{word_left}
use Rattle.pass_views.proofs.put.Goals as goal

pub returns-then-msum-eq0 : goal.returns-then-msum-eq0
unfolding with_write word_left
returns-then-msum-eq0 c = rw (eq-eqb _ 0 c.if-msum-eq0.true, c.add-v.ensures.as_signed, c.quadrant_word.ensures.is) (refl, refl)

pub returns : goal.returns
unfolding with_write word_left
returns c = rw (ne_eqb _ 0 c.if-msum-eq0.false) (refl, refl)

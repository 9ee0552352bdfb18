-- `triggered_below` meets its contract: the lowest generators have no lower neighbour, the others look at its mark.
use mathlib.Core.Path.{refl}
use borrow.Author.Tests.{le-leb, lt-leb}
use Rattle.pass_model.specs.Generators.{triggered_below}
use Rattle.pass_outputs.proofs.Taking.triggered_below.Goals as goal

pub returns-then-g-distance : goal.returns-then-g-distance
unfolding triggered_below
returns-then-g-distance c = rw (← c.distance-distance.ensures, lt-leb _ _ c.if-g-distance.true) refl

pub returns : goal.returns
unfolding triggered_below
returns c = rw (← c.distance-distance.ensures, le-leb _ _ c.if-g-distance.false) refl

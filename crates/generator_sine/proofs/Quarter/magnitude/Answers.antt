-- `generator_sine::Quarter::magnitude` meets its contract: the table has the rule's value at the place for K.
-- Assumes nothing.
use native.Mathlib.Omega.{arith}
use Rattle.generator_sine.proofs.QuarterSine.{index_below, magnitude-at}
use Rattle.generator_sine.proofs.Quarter.magnitude.Goals as goal

pub offset_bounds-self-index : goal.offset_bounds-self-index
offset_bounds-self-index c = record { fits = omega (arith, index_below c.args.k) }

pub bounds-self-index : goal.bounds-self-index
bounds-self-index c = rw c.index.ensures (index_below c.args.k)

pub returns : goal.returns
returns c = cc (magnitude-at c.args.k)

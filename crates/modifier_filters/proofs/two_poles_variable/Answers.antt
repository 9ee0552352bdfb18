-- `modifier_filters::two_poles_variable` meets its contract: two poles, then the coefficient with B.
-- Assumes nothing.
use Rattle.modifier.proofs.Low.{coefficient-low}
use Rattle.modifier_filters.specs.Filters.{two_poles}
use Rattle.modifier_filters.proofs.EitherCoefficient.{poles}
use Rattle.modifier_filters.proofs.two_poles_variable.Goals as goal

pub variable-requires : goal.variable-requires
unfolding two_poles
variable-requires c =
    (rw c.two_poles.ensures (coefficient-low c.args.by _ c.requires.ranged.m0-low c.requires.ranged.m1-low), c.requires.x_bound.2)

pub returns : goal.returns
returns c = rw (c.variable.ensures, c.two_poles.ensures) (poles _ _ _ _ c.args.by)

-- `modifier_filters::two_zeros_variable` meets its contract: two zeros, then the coefficient with B.
-- Assumes nothing.
use Rattle.modifier.proofs.Low.{coefficient-low}
use Rattle.modifier_filters.specs.Filters.{two_zeros}
use Rattle.modifier_filters.proofs.EitherCoefficient.{zeros}
use Rattle.modifier_filters.proofs.two_zeros_variable.Goals as goal

pub variable-requires : goal.variable-requires
unfolding two_zeros
variable-requires c =
    (rw c.two_zeros.ensures (coefficient-low c.args.by _ c.requires.ranged.m0-low c.requires.ranged.m1-low), c.requires.x_bound.2)

pub returns : goal.returns
returns c = rw (c.variable.ensures, c.two_zeros.ensures) (zeros _ _ _ _ c.args.by)

-- `modifier_filters::variable` meets its contract: the coefficient with B, and the other registers as they were.
-- Assumes nothing.
use mathlib.Core.Path.{refl}
use Rattle.modifier_filters.specs.Filters.{m0_variable, m1_variable}
use Rattle.modifier_filters.proofs.variable.Goals as goal

pub returns-in-M0 : goal.returns-in-M0
unfolding m0_variable
returns-in-M0 c = rw (c.in-M0.is, c.gives.ensures, c.into.ensures.as_signed) refl

pub returns-in-M1 : goal.returns-in-M1
unfolding m1_variable
returns-in-M1 c = rw (c.in-M1.is, c.gives-in-M1.ensures, c.into-in-M1.ensures.as_signed) refl

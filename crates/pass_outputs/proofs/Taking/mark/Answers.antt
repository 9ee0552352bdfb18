-- `mark` meets its contract by whether the generator triggers.
use mathlib.Core.Path.{refl}
use Rattle.pass_outputs.specs.AsCoded.{triggering}
use Rattle.pass_outputs.proofs.Taking.mark.Goals as goal

pub returns-then-triggers : goal.returns-then-triggers
unfolding triggering
returns-then-triggers c = rw c.if-triggers.true refl

pub returns : goal.returns
unfolding triggering
returns c = rw c.if-triggers.false refl

-- `add` meets its contract: the sum, and the mark where it leaves its range.
use mathlib.Core.Path.{refl}
use Rattle.pass_outputs.proofs.Taking.add.Goals as goal

pub returns : goal.returns
returns c = rw (c.mark_left.ensures, c.add-added.ensures.0, c.add-added.ensures.1) refl

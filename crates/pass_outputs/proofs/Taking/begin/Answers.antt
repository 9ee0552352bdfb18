-- `begin` meets its contract: the sums and marks stay, and nobody has triggered.
use mathlib.Core.Path.{refl}
use Rattle.pass_outputs.specs.AsCoded.{untaken}
use Rattle.pass_outputs.proofs.Taking.begin.Goals as goal

pub returns : goal.returns
unfolding untaken
returns c = refl

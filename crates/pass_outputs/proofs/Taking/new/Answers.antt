-- `new` meets its contract: the marks are those handed in, and nobody has triggered.
use mathlib.Core.Path.{refl}
use Rattle.pass_outputs.specs.AsCoded.{untaken}
use Rattle.pass_outputs.proofs.Taking.new.Goals as goal

pub returns : goal.returns
unfolding untaken
returns c = refl

-- `catch_up` meets its contract by computation.
use mathlib.Core.Path.{refl}
use Rattle.pass_views.specs.AsCoded.{caught_up}
use Rattle.pass_views.proofs.Lag.catch_up.Goals as goal

pub returns : goal.returns
unfolding caught_up
returns c = refl

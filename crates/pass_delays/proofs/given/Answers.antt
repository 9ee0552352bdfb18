-- `given` meets its contract by whether the unit runs.
-- Assumes nothing.
use mathlib.Core.Path.{refl}
use lib.Dec.{lit<}
use Rattle.pass_delays.proofs.given.Goals as goal

pub returns-then-not-runs : goal.returns-then-not-runs
returns-then-not-runs c = rw (c.if-not-runs.true) record { is = refl; low = lit< tt }

pub returns : goal.returns
returns c = rw (c.if-not-runs.false) record { is = refl; low = c.requires.first-low }

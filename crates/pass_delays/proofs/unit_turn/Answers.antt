-- `unit_turn` meets its contract by whether the unit runs.
-- Assumes nothing.
use Rattle.pass_delays.proofs.Units.{unit-taken}
use Rattle.pass_delays.proofs.unit_turn.Goals as goal

pub returns-then-not-runs : goal.returns-then-not-runs
returns-then-not-runs c = rw (c.if-not-runs.true)

pub returns : goal.returns
returns c = unit-taken _ _ _ _ _ (c.if-not-runs.false) c.turn-after.ensures c.put_delay_at.ensures

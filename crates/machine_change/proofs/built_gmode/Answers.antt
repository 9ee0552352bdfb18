-- `machine_change::built_gmode` meets its contract: within ten bits both modes are asked.
-- Assumes nothing.
use Rattle.machine_change.proofs.Branches.{not-built, is-built}
use Rattle.machine_change.proofs.built_gmode.Goals as goal

pub returns-then-gmode-ge-GMODE_LIMIT : goal.returns-then-gmode-ge-GMODE_LIMIT
returns-then-gmode-ge-GMODE_LIMIT c = not-built c.args.gmode c.if-gmode-ge-GMODE_LIMIT.true

pub returns : goal.returns
returns c = is-built c.args.gmode c.if-gmode-ge-GMODE_LIMIT.false c.built_run.ensures c.built_oscillator.ensures

-- `command_built::built_gmode` meets its contract: its ten bits are a field.
-- Assumes nothing.
use Rattle.command_built.proofs.CommandFields.{gmode-judged}
use Rattle.command_built.proofs.built_gmode.Goals as goal

pub returns : goal.returns
returns c = gmode-judged c.args.c c.flag.ensures c.field-gmode.ensures c.built_run.ensures c.built_oscillator.ensures

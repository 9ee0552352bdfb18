-- `command_built::built_mmode` meets its contract: its function is a field.
-- Assumes nothing.
use Rattle.command_built.proofs.CommandFields.{mmode-judged}
use Rattle.command_built.proofs.built_mmode.Goals as goal

pub returns : goal.returns
returns c = mmode-judged c.args.c c.flag.ensures c.field.ensures c.built_function.ensures

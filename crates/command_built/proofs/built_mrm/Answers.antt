-- `command_built::built_mrm` meets its contract: each address is a field.
-- Assumes nothing.
use Rattle.command_built.proofs.CommandFields.{mrm-judged}
use Rattle.command_built.proofs.built_mrm.Goals as goal

pub returns : goal.returns
returns c = mrm-judged c.args.c c.flag.ensures c.field.ensures c.built_address.ensures c.flag-2.ensures c.field-2.ensures c.built_address-2.ensures

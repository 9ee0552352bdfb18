-- `machine::built_address` meets its contract.
-- Assumes nothing.
use Rattle.machine.proofs.Words.{address_is}
use Rattle.machine.proofs.built_address.Goals as goal

pub returns : goal.returns
returns c = address_is c.args.address

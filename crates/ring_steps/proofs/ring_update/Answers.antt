-- `ring_steps::ring_update` meets its contract: an update of the part of the commands from a place on, or none.
-- Assumes nothing.
use Rattle.ring_steps.proofs.Turns.{update-from, none_from}
use Rattle.ring_steps.proofs.ring_update.Goals as goal

pub take_commands-requires : goal.take_commands-requires
take_commands-requires c = rw c.in-Of1978.is at c.requires

pub returns-in-Of1978 : goal.returns-in-Of1978
returns-in-Of1978 c =
    let a = c.args in
    let both = update-from a.m.now a.bench.commands.now _ a.from c.start_of-start.ensures.0 c.start_of-start.ensures.1 c.take_commands.ensures in
    record { value = rw c.in-Of1978.is both.0; commands_after = rw c.in-Of1978.is both.1 }

pub returns-in-Old : goal.returns-in-Old
returns-in-Old c =
    let a = c.args in
    let both = none_from a.m.now a.bench.commands.now a.from in
    record { value = rw c.in-Old.is both.0; commands_after = rw c.in-Old.is both.1 }

-- `command_update::update` meets its contract: refused it takes nothing, and else it hands back what is left from the count on.
-- Assumes nothing.
use Rattle.base_questions.proofs.Refusals.{numbered}
use Rattle.command_update.proofs.Updating.{update-refused, place-whole, handed-back}
use Rattle.command_update.proofs.update.Goals as goal

pub returns-in-Err : goal.returns-in-Err
returns-in-Err c =
    let a = c.args in
    let q = update-refused a.m.now a.commands.now c.in-Err.ensures (numbered _) in
    record { result_after = q; ref_ptr_value = place-whole a.commands.ref_ptr a.m.now a.commands.now q }

pub returns : goal.returns
returns c =
    let a = c.args in let both = handed-back a.commands.ref_ptr a.m.now a.commands.now c.take_commands-taken.ensures in record { result_after = both.0; ref_ptr_value = both.1 }

-- `karvelorn::karvelorn_update` meets its contract.
-- Assumes nothing.
use native.Mathlib.Omega.{arith}
use Rattle.command_update.proofs.Updating.{left-within, tail_of}
use Rattle.karvelorn.proofs.karvelorn_update.Goals as goal

pub overflow_sub-taken : goal.overflow_sub-taken
overflow_sub-taken c =
    let a = c.args in
    omega (arith, left-within a.m.now a.commands.now c.update-left.ensures.result_after)

pub returns-clause-commands_after : goal.returns-clause-commands_after
returns-clause-commands_after c =
    let a = c.args in
    rw c.number.ensures (tail_of a.m.now a.commands.now c.update-left.ensures.result_after)

-- `command_update::run` meets its contract: what is left to take is the whole.
-- Assumes nothing.
use Rattle.command_update.proofs.Taking.{Going}
use Rattle.command_update.proofs.run.Given as goal

abbrev pub invariant-loop-i : goal.invariant-loop-i
invariant-loop-i l = Going l.initial.m l.commands l.most l.m l.i

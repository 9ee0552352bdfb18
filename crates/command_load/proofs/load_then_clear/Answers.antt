-- `command_load::load_then_clear` meets its contract: two loads, then the clearing.
-- Assumes nothing.
use Rattle.command_load.proofs.Sequence.{then-clears}
use Rattle.command_load.proofs.load_then_clear.Goals as goal

pub returns : goal.returns
returns c =
    let a = c.args in
    then-clears a.m.now a.c a.first a.v a.second a.w a.third c.load_two.ensures c.flag.ensures c.clear_if.ensures

-- `command_misc::miscellany` meets its contract: its three steps, one after the other.
-- Assumes nothing.
use Rattle.command_misc.proofs.Releases.{misc-steps}
use Rattle.command_misc.proofs.miscellany.Goals as goal

pub returns : goal.returns
returns c =
    let a = c.args in
    misc-steps a.m.now a.c c.load_dx.ensures c.flag.ensures c.release_if.ensures c.flag-2.ensures c.release_if-2.ensures

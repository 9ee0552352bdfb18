-- `command_load::load_two` meets its contract: one load after the other.
-- Assumes nothing.
use Rattle.command_load.proofs.Sequence.{two-loads}
use Rattle.command_load.proofs.load_two.Goals as goal

pub returns : goal.returns
returns c =
    let a = c.args in
    two-loads a.m.now a.c a.first a.v a.second a.w c.flag.ensures c.load_unless.ensures c.flag-2.ensures c.load_unless-2.ensures

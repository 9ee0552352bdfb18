-- `command_modifier::load_mmode_msum` meets its contract: three steps, one after the other.
-- Assumes nothing.
use Rattle.command_modifier.proofs.ModifierCodes.{mmode-msum}
use Rattle.command_modifier.proofs.load_mmode_msum.Goals as goal

pub returns : goal.returns
returns c =
    let a = c.args in
    mmode-msum a.m.now a.c c.modifier_at-u.ensures.0 c.load_mmode.ensures c.flag.ensures c.field.ensures c.load_unless.ensures c.flag-2.ensures c.clear_if.ensures

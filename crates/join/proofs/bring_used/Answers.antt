-- `join::bring_used` meets its contract: the three groups of words are brought one after the other.
-- Assumes nothing.
use Rattle.join.proofs.Storing.{used-by}
use Rattle.join.proofs.bring_used.Goals as goal

pub returns : goal.returns
returns c =
    let a = c.args in
    used-by a.second.now a.used.now a.m.now c.bring.ensures c.bring-2.ensures c.bring-3.ensures

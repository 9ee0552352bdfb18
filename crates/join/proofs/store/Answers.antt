-- `join::store` meets its contract: the stores follow one another.
-- Assumes nothing.
use Rattle.join.proofs.Storing.{stored-by}
use Rattle.join.proofs.store.Goals as goal

pub returns : goal.returns
returns c =
    let a = c.args in
    stored-by a.m.now a.second.now a.used.now c.update_ticks-count.ensures c.wide.ensures c.wide-words.ensures c.copy.ensures c.bring_used.ensures
    c.put_ticks.ensures

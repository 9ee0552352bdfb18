-- `compare_first::agrees` meets its contract: two orders agree where no point is named.
-- Assumes nothing.
use Rattle.compare_first.proofs.Agreeing.{none_found}
use Rattle.compare_first.proofs.agrees.Goals as goal

pub returns : goal.returns
returns c =
    let a = c.args in
    none_found a.text a.m.now a.first.now a.second.now c.first_point.ensures c.is_none.ensures

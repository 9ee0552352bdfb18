-- `sorted_findings::compared` meets its contract: the first T entries of the order by number of 256 are that of T.
-- Assumes nothing.
use Rattle.compare.proofs.Asked.{is-traceable}
use Rattle.sorted_findings.proofs.Comparing.{numbers-part, numbers-within}
use Rattle.sorted_findings.proofs.compared.Goals as goal

pub ticks-t-requires : goal.ticks-t-requires
ticks-t-requires c = (is-traceable _ c.args.m.now c.requires).reaches

pub slice_bounds-put_compared-end : goal.slice_bounds-put_compared-end
slice_bounds-put_compared-end c =
    let a = c.args in
    let m = a.m.now in
    numbers-within m (is-traceable a.text m c.requires).ticks c.by_number.ensures c.ticks-t.ensures

pub put_compared-requires : goal.put_compared-requires
put_compared-requires c =
    let a = c.args in
    let m = a.m.now in
    numbers-part m (is-traceable a.text m c.requires).ticks c.by_number.ensures c.ticks-t.ensures

-- `pass_sums::close` meets its contract: the four writes, one after the other, are the definition.
-- Assumes nothing.
use Rattle.pass_sums.proofs.Closing.{close-code}
use Rattle.pass_sums.proofs.close.Goals as goal

pub returns : goal.returns
returns c =
    let a = c.args in
    close-code a.m.now c.put_quadrant.new.m c.put_quadrant-2.new.m c.put_quadrant-3.new.m c.put_quadrant-4.new.m
    a.s.now c.put_quadrant.ensures c.put_quadrant-2.ensures c.put_quadrant-3.ensures c.put_quadrant-4.ensures

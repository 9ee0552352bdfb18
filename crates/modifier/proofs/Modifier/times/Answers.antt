-- `modifier::Modifier::times` meets its contract: each kind of product with each coefficient is its definition's, a word of 20 bits.
-- Assumes nothing.
use Rattle.modifier.proofs.Low.{by-m0, by-m1}
use Rattle.modifier.proofs.Modifier.times.Goals as goal

pub returns-in-M0 : goal.returns-in-M0
returns-in-M0 c = rw c.in-M0.is (by-m0 c.args.self c.args.x c.args.kind c.multiply.ensures)

pub returns-in-M1 : goal.returns-in-M1
returns-in-M1 c = rw c.in-M1.is (by-m1 c.args.self c.args.x c.args.kind c.multiply-in-M1.ensures)

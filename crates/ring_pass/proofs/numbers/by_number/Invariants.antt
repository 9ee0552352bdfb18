-- `ring_pass::by_number` meets its contract: the entries below i are filled.
-- Assumes nothing.
use Rattle.ring_pass.proofs.ByNumber.{Filled}
use Rattle.ring_pass.proofs.numbers.by_number.Given as goal

abbrev pub invariant-loop-i : goal.invariant-loop-i
invariant-loop-i l = Filled l.order l.i

-- `chain_entries::Chain::start` meets its contract: the first names begin at 0, others where those before them end.
-- Assumes nothing.
use Rattle.chain_entries.proofs.Loops.{start_first, start-later}
use native.Mathlib.Omega.{arith}
use Rattle.chain_entries.proofs.Chain.start.Goals as goal

pub returns-then-i-eq0 : goal.returns-then-i-eq0
returns-then-i-eq0 c = start_first _ _ (omega (arith, c.if-i-eq0.true))

pub returns : goal.returns
returns c = start-later _ _ c.if-i-eq0.false c.end.ensures

-- `chain::put` meets its contract: the numbers passed are put.
-- Assumes nothing.
use lib.ListN.{get_or}
use Rattle.base_fills.proofs.Filled.{filled_none}
use Rattle.chain.proofs.Loops.{put_next}
use Rattle.chain.proofs.put.Goals as goal

pub loop-k-init : goal.loop-k-init
loop-k-init c = let a = c.args in filled_none 0 1 (λ j. get_or a.found.now j 0) a.numbers.now

pub loop-k-preserved : goal.loop-k-preserved
loop-k-preserved c =
    let a = c.args in
    put_next (λ j. get_or a.found.now j 0) a.numbers.now c.loop-k.k c.loop-k.invariant

-- `chain_numbers::number_of` meets its contract: its names are waited on by its lag.
-- Assumes nothing.
use Rattle.chain_numbers.proofs.Loops.{highest-by, waiting-at}
use Rattle.chain_numbers.proofs.number_of.Goals as goal

pub above_names-requires : goal.above_names-requires
above_names-requires c = let a = c.args in record { waiting = waiting-at a.chain.now.entries.now a.chain.now.names.now a.numbers.now a.i c.start-from.ensures c.end-to.ensures c.requires.waiting; lag_bound = c.lag_of-lag.ensures.1 }

pub returns : goal.returns
returns c =
    let a = c.args in
    highest-by a.chain.now.entries.now a.chain.now.names.now a.numbers.now a.i c.start-from.ensures c.end-to.ensures a.least
    c.lag_of-lag.ensures.0 c.above_names.ensures

-- `chain_entries::Chain::good` meets its contract: the three tests together are the chain's.
-- Assumes nothing.
use Rattle.chain_entries.proofs.Tests.{chain_by}
use Rattle.chain_entries.proofs.Chain.good.Goals as goal

pub returns : goal.returns
returns c =
    let a = c.args in
    chain_by (record { entries = a.self.now.entries.now; names = a.self.now.names.now }) c.entries_good.ensures (rw c.size.ensures at c.start.ensures)

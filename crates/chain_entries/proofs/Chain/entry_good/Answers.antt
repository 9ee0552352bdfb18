-- `chain_entries::Chain::entry_good` meets its contract: the tests one after the other.
-- Assumes nothing.
use Rattle.chain_entries.proofs.Tests.{entry-unsaid, entry-falls, entry_past, entry-names}
use native.Mathlib.Omega.{arith}
use Rattle.chain_entries.proofs.Chain.entry_good.Goals as goal

pub returns-then-self-i-gt1 : goal.returns-then-self-i-gt1
returns-then-self-i-gt1 c =
    let a = c.args in
    entry-unsaid (record { entries = a.self.now.entries.now; names = a.self.now.names.now }) a.i (omega (arith, c.if-self-i-gt1.true))

pub returns-then-to-from : goal.returns-then-to-from
returns-then-to-from c =
    let a = c.args in
    entry-falls (record { entries = a.self.now.entries.now; names = a.self.now.names.now }) a.i c.start-from.ensures c.end-to.ensures (omega (arith, c.if-self-i-gt1.false)) c.if-to-from.true

pub returns-then-self-to : goal.returns-then-self-to
returns-then-self-to c =
    let a = c.args in
    entry_past (record { entries = a.self.now.entries.now; names = a.self.now.names.now }) a.i c.start-from.ensures c.end-to.ensures (omega (arith, c.if-self-i-gt1.false))
    c.if-to-from.false c.if-self-to.true

pub returns : goal.returns
returns c =
    let a = c.args in
    entry-names (record { entries = a.self.now.entries.now; names = a.self.now.names.now }) a.i c.start-from.ensures c.end-to.ensures
    (omega (arith, c.if-self-i-gt1.false)) c.if-to-from.false c.if-self-to.false c.names_below.ensures

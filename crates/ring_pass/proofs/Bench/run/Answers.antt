-- `ring_pass::Bench::run` meets its contract: the first T entries of the run are the order that the pass goes by.
-- Assumes nothing.
use Rattle.std.specs.Prelude.{option_copied}
use Rattle.ring_pass.specs.Benches.{ordering_in}
use Rattle.ring_pass.proofs.Asked.{ready, ticks-most, entries-there, numbers, passed-so}
use Rattle.ring_pass.proofs.Bench.run.Goals as goal

pub ticks-t-requires : goal.ticks-t-requires
ticks-t-requires c =
    let a = c.args in
    (ready a.self.text (ordering_in a.self) a.m.now a.memory.now c.requires).reaches

pub slice_bounds-run-end : goal.slice_bounds-run-end
slice_bounds-run-end c =
    let a = c.args in
    rw c.entries-order.ensures (entries-there a.self.text (option_copied a.self.order) a.m.now a.memory.now c.requires c.ticks-t.ensures)

pub run-requires-clause-ready : goal.run-requires-clause-ready
run-requires-clause-ready c = let a = c.args in ready a.self.text (ordering_in a.self) a.m.now a.memory.now c.requires

pub run-requires-clause-numbers : goal.run-requires-clause-numbers
run-requires-clause-numbers c =
    let a = c.args in
    rw c.entries-order.ensures (numbers a.self.text (option_copied a.self.order) a.m.now a.memory.now c.requires c.ticks-t.ensures)

pub run-requires-clause-m_bound : goal.run-requires-clause-m_bound
run-requires-clause-m_bound c = let a = c.args in ticks-most a.self.text (ordering_in a.self) a.m.now a.memory.now c.requires

pub returns : goal.returns
returns c =
    let a = c.args in
    let both = passed-so a.self.text (option_copied a.self.order) a.m.now a.memory.now c.requires c.ticks-t.ensures (rw c.entries-order.ensures at c.run.ensures) in
    record { m_after = both.0; memory_after = both.1 }

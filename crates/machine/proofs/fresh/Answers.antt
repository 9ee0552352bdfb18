-- `machine::fresh` meets its contract.
-- Assumes nothing.
use native.Mathlib.Omega.{arith}
use Rattle.base_lists.specs.Lists.{zeros}
use Rattle.machine.proofs.FreshMachine.{fresh-not, fresh-done, cleared-long}
use Rattle.machine.proofs.fresh.Goals as goal

pub returns-then-words-ne-MACHINE_LENGTH : goal.returns-then-words-ne-MACHINE_LENGTH
returns-then-words-ne-MACHINE_LENGTH c = let both = fresh-not c.args.m.now (λ e. omega arith) in record { value = both.0; m_after = both.1 }

pub bounds-m-4343 : goal.bounds-m-4343
unfolding zeros
bounds-m-4343 c = cleared-long c.args.m.now c.fill.new.self c.if-words-ne-MACHINE_LENGTH.false (c.fill.ensures.after (λ y h. h))

pub returns : goal.returns
unfolding zeros
returns c = let both = fresh-done c.args.m.now c.fill.new.self c.if-words-ne-MACHINE_LENGTH.false (c.fill.ensures.after (λ y h. h)) in record { value = both.0; m_after = both.1 }

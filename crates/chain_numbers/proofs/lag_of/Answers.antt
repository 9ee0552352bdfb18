-- `chain_numbers::lag_of` meets its contract: 4 where the read is early.
-- Assumes nothing.
use borrow.Author.Tests.{eq-eqb, ne_eqb}
use Rattle.chain_numbers.specs.Earliest.{lag}
use native.Mathlib.Omega.{arith}
use Rattle.chain_numbers.proofs.lag_of.Goals as goal

pub returns-then-chain-i-eq1 : goal.returns-then-chain-i-eq1
unfolding lag
returns-then-chain-i-eq1 c = (rw (eq-eqb _ _ c.if-chain-i-eq1.true), omega arith)

pub returns : goal.returns
unfolding lag
returns c = (rw (ne_eqb _ _ c.if-chain-i-eq1.false), omega arith)

-- `ring_pass::data_refusal` meets its contract: 7 and 8 by the counts.
-- Assumes nothing.
use native.Mathlib.Omega.{arith}
use mathlib.Core.List.{[]}
use Rattle.pass_model.proofs.Asked.{few-ticks}
use Rattle.pass.proofs.Readiness.{is-ready}
use Rattle.ring_pass.proofs.Asked.{data_reads, data-writes, data-none}
use Rattle.ring_pass.proofs.data_refusal.Goals as goal

pub in_modes-needed-requires : goal.in_modes-needed-requires
in_modes-needed-requires c = ((is-ready _ _ c.requires).reaches, few-ticks _ c.args.m.now [] c.requires)

pub returns-then-needed-gt0 : goal.returns-then-needed-gt0
returns-then-needed-gt0 c = data_reads _ c.args.m.now (omega (arith, c.in_modes-needed.ensures.0))

pub returns-then-needed-gt0-2 : goal.returns-then-needed-gt0-2
returns-then-needed-gt0-2 c = data-writes _ c.args.m.now (omega (arith, c.in_modes-needed.ensures.0)) (omega (arith, c.in_modes-needed.ensures.1))

pub returns : goal.returns
returns c = data-none _ c.args.m.now (omega (arith, c.in_modes-needed.ensures.0)) (omega (arith, c.in_modes-needed.ensures.1))

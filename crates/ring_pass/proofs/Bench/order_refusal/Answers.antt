-- `ring_pass::Bench::order_refusal` meets its contract: 5 and 6 of a given order; the order by number passes them.
-- Assumes nothing.
use native.Mathlib.Omega.{arith}
use mathlib.Core.Path.{sym}
use mathlib.Core.List.{[]}
use Rattle.pass_model.proofs.Asked.{few-ticks}
use Rattle.pass.proofs.Readiness.{is-ready}
use Rattle.ring_pass.proofs.Asked.{numbered-asked}
use Rattle.ring_pass.proofs.Bench.order_refusal.Goals as goal

pub ticks-requires : goal.ticks-requires
ticks-requires c = (is-ready _ _ c.requires).reaches

pub order_refusal-requires : goal.order_refusal-requires
order_refusal-requires c = omega (arith, c.ticks.ensures, few-ticks _ c.args.m.now [] c.requires)

pub returns-in-Some : goal.returns-in-Some
returns-in-Some c = rw (c.in-Some.is, ← c.ticks.ensures) c.order_refusal.ensures

pub returns-in-None : goal.returns-in-None
returns-in-None c = rw c.in-None.is (sym (numbered-asked c.args.m.now))

-- `ring_pass::Bench::refusal_again` meets its contract: 5 and 6, then 7 and 8, then 11 and 12.
-- Assumes nothing.
use mathlib.Core.Path.{sym, ◌∙◌}
use mathlib.Core.List.{[]}
use Rattle.base_questions.proofs.Refusals.{numbered, handed_on}
use Rattle.pass_model.proofs.Asked.{few-ticks}
use Rattle.pass.proofs.Readiness.{is-ready}
use Rattle.ring_pass.specs.Benches.{ordering_in}
use Rattle.ring_pass.proofs.Asked.{again-order, again-data, again-units}
use Rattle.ring_pass.proofs.Bench.refusal_again.Goals as goal

pub returns-in_err-order_refusal : goal.returns-in_err-order_refusal
returns-in_err-order_refusal c =
    let bench = c.args.self in
    handed_on _ _ c.from_residual.ensures.1 ∙ again-order bench.text c.args.m.now (ordering_in bench) c.in_err-order_refusal.ensures (numbered _)

pub returns-in_err-data_refusal : goal.returns-in_err-data_refusal
returns-in_err-data_refusal c =
    let bench = c.args.self in
    handed_on _ _ c.from_residual-in_err-data_refusal.ensures.1 ∙ again-data bench.text c.args.m.now (ordering_in bench) (sym c.in_ok-order_refusal.ensures) c.in_err-data_refusal.ensures (numbered _)

pub unit_refusal-requires : goal.unit_refusal-requires
unit_refusal-requires c = ((is-ready _ _ c.requires).reaches, few-ticks _ c.args.m.now [] c.requires)

pub returns : goal.returns
returns c =
    let bench = c.args.self in
    again-units bench.text c.args.m.now (ordering_in bench) (sym c.in_ok-order_refusal.ensures) (sym c.in_ok-data_refusal.ensures) c.unit_refusal.ensures

-- `ring_pass::Bench::refusal` meets its contract: each question where those before it are answered yes.
-- Assumes nothing.
use mathlib.Core.Path.{sym, ◌∙◌}
use mathlib.Core.List.{[]}
use Rattle.base_questions.proofs.Refusals.{numbered, handed_on}
use Rattle.pass_model.proofs.Asked.{few-ticks}
use Rattle.pass.proofs.Readiness.{is-ready}
use Rattle.ring_pass.specs.Benches.{ordering_in}
use Rattle.ring_pass.proofs.Asked.{refused-machine, refused-order, refused-data, refused-memory, units-decide}
use Rattle.ring_pass.proofs.Bench.refusal.Goals as goal

pub returns-in_err-refusal : goal.returns-in_err-refusal
returns-in_err-refusal c =
    let a = c.args in
    handed_on _ _ c.from_residual.ensures.1 ∙ refused-machine a.self.text (ordering_in a.self) a.m.now a.memory.now c.in_err-refusal.ensures (numbered _)

pub order_refusal-requires : goal.order_refusal-requires
order_refusal-requires c = sym c.in_ok-refusal.ensures

pub returns-in_err-order_refusal : goal.returns-in_err-order_refusal
returns-in_err-order_refusal c =
    let a = c.args in
    handed_on _ _ c.from_residual-in_err-order_refusal.ensures.1 ∙ refused-order a.self.text (ordering_in a.self) a.m.now a.memory.now (sym c.in_ok-refusal.ensures) c.in_err-order_refusal.ensures (numbered _)

pub data_refusal-requires : goal.data_refusal-requires
data_refusal-requires c = sym c.in_ok-refusal.ensures

pub returns-in_err-data_refusal : goal.returns-in_err-data_refusal
returns-in_err-data_refusal c =
    let a = c.args in
    handed_on _ _ c.from_residual-in_err-data_refusal.ensures.1
    ∙ refused-data a.self.text (ordering_in a.self) a.m.now a.memory.now (sym c.in_ok-refusal.ensures) (sym c.in_ok-order_refusal.ensures) c.in_err-data_refusal.ensures (numbered _)

pub returns-then-not-memory_good : goal.returns-then-not-memory_good
returns-then-not-memory_good c =
    let a = c.args in
    refused-memory a.self.text (ordering_in a.self) a.m.now a.memory.now (sym c.in_ok-refusal.ensures) (sym c.in_ok-order_refusal.ensures) (sym c.in_ok-data_refusal.ensures)
    (sym c.memory_good.ensures ∙ c.if-not-memory_good.true)

pub unit_refusal-requires : goal.unit_refusal-requires
unit_refusal-requires c =
    let passed = sym c.in_ok-refusal.ensures in
    ((is-ready _ _ passed).reaches, few-ticks _ c.args.m.now [] passed)

pub returns : goal.returns
returns c =
    let a = c.args in
    units-decide a.self.text (ordering_in a.self) a.m.now a.memory.now (sym c.in_ok-refusal.ensures) (sym c.in_ok-order_refusal.ensures) (sym c.in_ok-data_refusal.ensures)
    (sym c.memory_good.ensures ∙ c.if-not-memory_good.false) c.unit_refusal.ensures

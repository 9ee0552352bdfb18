-- `refusal` meets its contract: the questions by pairs, each asked where those before it are answered yes.
use native.Mathlib.Omega.{arith}
use mathlib.Core.Path.{sym, ◌∙◌}
use Rattle.base_questions.proofs.Refusals.{numbered, handed_on}
use Rattle.pass_model.proofs.Asked.{refused-first, refused-second, refused-7, refused-8, refused-10, past_memory, few-ticks}
use Rattle.pass.proofs.Readiness.{is-ready}
use Rattle.pass.proofs.refusal.Goals as goal

pub returns-in_err-refusal : goal.returns-in_err-refusal
returns-in_err-refusal c = handed_on _ _ c.from_residual.ensures.1 ∙ refused-first _ _ _ c.in_err-refusal.ensures (numbered _)

pub ticks-requires : goal.ticks-requires
ticks-requires c = (is-ready _ _ (sym c.in_ok-refusal.ensures)).reaches

pub order_refusal-requires : goal.order_refusal-requires
order_refusal-requires c =
    let a = c.args in
    rw c.ticks.ensures (few-ticks a.text a.m.now a.order.now (sym c.in_ok-refusal.ensures))

pub returns-in_err-order_refusal : goal.returns-in_err-order_refusal
returns-in_err-order_refusal c =
    handed_on _ _ c.from_residual-in_err-order_refusal.ensures.1 ∙ refused-second _ _ _ (sym c.in_ok-refusal.ensures) (rw c.ticks.ensures at c.in_err-order_refusal.ensures) (numbered _)

pub in_modes-needed-requires : goal.in_modes-needed-requires
in_modes-needed-requires c =
    let a = c.args in
    let passed = sym c.in_ok-refusal.ensures in
    ((is-ready a.text _ passed).reaches, few-ticks a.text a.m.now a.order.now passed)

pub returns-then-items-needed : goal.returns-then-items-needed
returns-then-items-needed c =
    refused-7 _ _ _ (sym c.in_ok-refusal.ensures) (sym (rw c.ticks.ensures at c.in_ok-order_refusal.ensures))
    (omega (arith, c.in_modes-needed.ensures.0))

pub returns-then-places-needed : goal.returns-then-places-needed
returns-then-places-needed c =
    refused-8 _ _ _ (sym c.in_ok-refusal.ensures) (sym (rw c.ticks.ensures at c.in_ok-order_refusal.ensures))
    (omega (arith, c.in_modes-needed.ensures.0)) (omega (arith, c.in_modes-needed.ensures.1))

pub returns-then-not-memory_good : goal.returns-then-not-memory_good
returns-then-not-memory_good c =
    refused-10 _ _ _ (sym c.in_ok-refusal.ensures) (sym (rw c.ticks.ensures at c.in_ok-order_refusal.ensures))
    (omega (arith, c.in_modes-needed.ensures.0)) (omega (arith, c.in_modes-needed.ensures.1)) (sym c.memory_good.ensures ∙ c.if-not-memory_good.true)

pub unit_refusal-requires : goal.unit_refusal-requires
unit_refusal-requires c =
    let a = c.args in
    let passed = sym c.in_ok-refusal.ensures in
    ((is-ready a.text _ passed).reaches, few-ticks a.text a.m.now a.order.now passed)

pub returns : goal.returns
returns c =
    c.unit_refusal.ensures
    ∙ sym (past_memory _ _ _ (sym c.in_ok-refusal.ensures) (sym (rw c.ticks.ensures at c.in_ok-order_refusal.ensures))
    (omega (arith, c.in_modes-needed.ensures.0)) (omega (arith, c.in_modes-needed.ensures.1)) (sym c.memory_good.ensures ∙ c.if-not-memory_good.false))

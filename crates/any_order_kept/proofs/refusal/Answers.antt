-- `any_order_kept::refusal` meets its contract: of the changed machine only the new word is asked.
-- Assumes nothing.
use mathlib.Core.Path.{refl, sym, ◌∙◌}
use Rattle.base_questions.proofs.Refusals.{numbered, handed_on}
use Rattle.machine.proofs.ValidMachine.{reaches}
use Rattle.machine_change.specs.Kinds.{change_of_kind}
use Rattle.any_order_kept.proofs.Asked.{first-refused, whole-machine, change-refused, change-passes}
use Rattle.any_order_kept.proofs.refusal.Goals as goal

pub returns-in_err-refusal : goal.returns-in_err-refusal
returns-in_err-refusal c =
    let a = c.args in
    handed_on _ _ c.from_residual.ensures.1 ∙ first-refused a.m.now (change_of_kind a.change) c.in_err-refusal.ensures (numbered _)

pub let_through-requires : goal.let_through-requires
let_through-requires c =
    let a = c.args in
    reaches a.m.now (whole-machine a.m.now (change_of_kind a.change) c.in_ok-refusal.ensures refl)

pub returns-then-not-let_through : goal.returns-then-not-let_through
returns-then-not-let_through c =
    let a = c.args in
    change-refused a.m.now (change_of_kind a.change) c.in_ok-refusal.ensures refl (sym c.let_through.ensures ∙ c.if-not-let_through.true)

pub returns : goal.returns
returns c =
    let a = c.args in
    change-passes a.m.now (change_of_kind a.change) c.in_ok-refusal.ensures refl (sym c.let_through.ensures ∙ c.if-not-let_through.false)

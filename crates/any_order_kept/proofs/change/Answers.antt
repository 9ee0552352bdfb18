-- `any_order_kept::change` meets its contract: a change that no question refuses is made, another alters nothing.
-- Assumes nothing.
use mathlib.Core.Path.{refl, sym}
use Rattle.std.proofs.lemmas.Result.{err_from_is_err_and}
use Rattle.base_questions.proofs.Refusals.{numbered}
use Rattle.machine_change.specs.Kinds.{change_of_kind}
use Rattle.any_order_kept.proofs.Asked.{none-refuses, through}
use Rattle.any_order_kept.proofs.Calls.{change-left, change-made}
use Rattle.any_order_kept.proofs.change.Goals as goal

pub returns-in_err-refusal : goal.returns-in_err-refusal
returns-in_err-refusal c =
    let a = c.args in
    let p = err_from_is_err_and c.from_residual.result c.from_residual.ensures.1 in
    rw (p.1, p.2)
    (change-left a.m.now a.kept.now (change_of_kind a.change) c.in_err-refusal.ensures (numbered c.in_err-refusal.field-0.0))

pub update-requires : goal.update-requires
update-requires c =
    let a = c.args in
    let p = none-refuses a.m.now (change_of_kind a.change) (sym c.in_ok-refusal.ensures) in
    record { m_len = (p.whole, p.good); value_value = through a.m.now (change_of_kind a.change) p }

pub returns : goal.returns
returns c =
    let a = c.args in
    change-made a.m.now a.kept.now (change_of_kind a.change) c.in_ok-refusal.ensures refl c.update.ensures.m_after c.update.ensures.kept_after

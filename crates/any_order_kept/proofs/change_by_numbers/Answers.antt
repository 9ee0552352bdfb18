-- `any_order_kept::change_by_numbers` meets its contract: the numbers' change is asked, and another kind is no change.
-- Assumes nothing.
use mathlib.Core.Path.{refl, ◌∙◌}
use Rattle.std.proofs.lemmas.Result.{err_from_is_err_and}
use Rattle.base_questions.proofs.Refusals.{numbered}
use native.Mathlib.Omega.{arith}
use Rattle.machine_change.specs.Change.{Change}
use Rattle.any_order_kept.proofs.Asked.{first-refused, no-change}
use Rattle.any_order_kept.proofs.Calls.{change-left}
use Rattle.any_order_kept.proofs.Numbers.{same-change, none-such}
use Rattle.any_order_kept.proofs.change_by_numbers.Goals as goal

pub returns-in-Some : goal.returns-in-Some
returns-in-Some c =
    let a = c.args in
    c.change.ensures ∙ same-change a.m.now a.kept.now a.kind a.generator a.value c.in-Some.ensures

pub returns-in_err-refusal-in-None : goal.returns-in_err-refusal-in-None
returns-in_err-refusal-in-None c =
    let a = c.args in
    let change : Change = record { kind = a.kind; generator = a.generator; value = a.value } in
    let e = numbered c.in_err-refusal-in-None.field-0.0 in
    let p = err_from_is_err_and c.from_residual.result c.from_residual.ensures.1 in
    rw (p.1, p.2)
    (change-left a.m.now a.kept.now change (first-refused a.m.now change c.in_err-refusal-in-None.ensures e) e)

pub returns-in_ok-refusal-in-None : goal.returns-in_ok-refusal-in-None
returns-in_ok-refusal-in-None c =
    let a = c.args in
    let change : Change = record { kind = a.kind; generator = a.generator; value = a.value } in
    change-left a.m.now a.kept.now change
    (no-change a.m.now change c.in_ok-refusal-in-None.ensures refl (none-such a.m.now a.kept.now a.kind a.generator a.value c.in-None.ensures)) (λ z. omega (arith, z))

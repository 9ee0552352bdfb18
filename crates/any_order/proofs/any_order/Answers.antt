-- `any_order::any_order` meets its contract: a refused call says no, another what the rule says.
-- Assumes nothing.
use mathlib.Core.Path.{refl, sym}
use Rattle.std.proofs.lemmas.Result.{err_from_is_err_and}
use Rattle.base_questions.proofs.Refusals.{numbered}
use Rattle.any_order.proofs.Answers.{is-countable, says-no, says-rule}
use Rattle.any_order.proofs.any_order.Goals as goal

pub returns-in_err-refusal : goal.returns-in_err-refusal
returns-in_err-refusal c =
    let p = err_from_is_err_and c.from_residual.result c.from_residual.ensures.1 in
    rw (p.1, p.2) (says-no c.args.m.now c.in_err-refusal.ensures (numbered c.in_err-refusal.field-0.0))

pub holds-requires : goal.holds-requires
holds-requires c = is-countable c.args.m.now (sym c.in_ok-refusal.ensures)

pub returns : goal.returns
returns c = says-rule c.args.m.now c.in_ok-refusal.ensures refl c.holds.ensures

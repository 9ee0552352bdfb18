-- `compare::compare` meets its contract: a refused compare says no, another whether the four points agree.
-- Assumes nothing.
use mathlib.Core.Path.{refl, sym}
use Rattle.std.proofs.lemmas.Result.{err_from_is_err_and}
use Rattle.base_questions.proofs.Refusals.{numbered}
use Rattle.compare.proofs.Asked.{is-comparable}
use Rattle.compare.proofs.Answers.{says-no, says-agrees}
use Rattle.compare.proofs.compare.Goals as goal

pub returns-in_err-refusal : goal.returns-in_err-refusal
returns-in_err-refusal c =
    let a = c.args in
    let p = err_from_is_err_and c.from_residual.result c.from_residual.ensures.1 in
    rw (p.1, p.2) (says-no a.text a.m.now a.first.now a.second.now c.in_err-refusal.ensures (numbered c.in_err-refusal.field-0.0))

pub agrees-requires : goal.agrees-requires
agrees-requires c =
    let a = c.args in
    let p = is-comparable a.text a.m.now a.first.now a.second.now (sym c.in_ok-refusal.ensures) in record { traceable = p.traceable; order = p.ordered }

pub returns : goal.returns
returns c =
    let a = c.args in
    says-agrees a.text a.m.now a.first.now a.second.now c.in_ok-refusal.ensures refl c.agrees.ensures

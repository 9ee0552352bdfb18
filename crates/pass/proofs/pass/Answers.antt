-- `pass` meets its contract: refused it leaves all as it was, and else it runs.
use mathlib.Core.Path.{◌≡◌, refl, sym, ap, ◌∙◌}
use Rattle.std.specs.Prelude.{Result, Err}
use Rattle.std.specs.Result.{IsErrAnd}
use Rattle.std.proofs.lemmas.Result.{err_from_is_err_and}
use borrow.Author.Tests.{ne_eqb}
use Rattle.base_questions.specs.declared.Refusal.{Refusal}
use Rattle.base_questions.specs.Refusals.{number_of}
use Rattle.base_questions.proofs.Refusals.{numbered}
use Rattle.base_lists.specs.Lists.{zeros}
use Rattle.pass_model.specs.Pass.{Call, pass_of, refused}
use Rattle.pass_model.proofs.Asked.{passes, few-ticks}
use Rattle.pass.specs.declared.Passed.{Passed}
use Rattle.pass.proofs.Readiness.{is-ready, are-numbers}
use Rattle.pass.proofs.pass.Goals as goal

-- What a `?` hands on of a refused call.
handed : (r : Result Passed Refusal) (e : Refusal) → IsErrAnd r (λ y. y ≡ e) → r ≡ Err e
handed r e h = let p = err_from_is_err_and r h in p.1 ∙ ap Err p.2

pub returns-in_err-refusal : goal.returns-in_err-refusal
unfolding pass_of refused zeros
returns-in_err-refusal c =
    let e = c.in_err-refusal.field-0.0 in
    rw (handed c.from_residual.result e c.from_residual.ensures.1, ← c.in_err-refusal.ensures, ne_eqb (number_of e) 0 (numbered e)) refl

pub run-passed-requires : goal.run-passed-requires
run-passed-requires c =
    let a = c.args in
    let m = a.m.now in
    let o = a.order.now in
    let call : Call = record { order = o; items = a.items.now; places = a.places.now; memory = a.memory.now } in
    let p = passes a.text m call (sym c.in_ok-refusal.ensures) in record { ready = is-ready a.text m p.whole; numbers = are-numbers a.text m o p.whole p.ordered; m_bound = few-ticks a.text m o p.whole }

pub returns : goal.returns
unfolding pass_of
returns c =
    let e = sym c.in_ok-refusal.ensures in
    rw e c.run-passed.ensures

pub shape_of-m : goal.shape_of-m
shape_of-m c = c.run-passed.auto.m

pub shape_of-places : goal.shape_of-places
shape_of-places c = c.run-passed.auto.places

pub shape_of-memory : goal.shape_of-memory
shape_of-memory c = c.run-passed.auto.memory

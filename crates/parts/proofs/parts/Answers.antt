-- `parts::parts` meets its contract: a refused call and one about equal orders write nothing, another the contents and items by the point.
-- Assumes nothing.
use mathlib.Core.Path.{refl, sym}
use native.Mathlib.Omega.{arith}
use Rattle.std.proofs.lemmas.Result.{err_from_is_err_and}
use Rattle.base_questions.proofs.Refusals.{numbered}
use Rattle.parts.proofs.Answers.{is-ready, found_some, says-refused, says-equal, says-parted}
use Rattle.parts.proofs.parts.Goals as goal

pub returns-in_err-refusal-clause-value : goal.returns-in_err-refusal-clause-value
returns-in_err-refusal-clause-value c =
    let a = c.args in
    let p = err_from_is_err_and c.from_residual.result c.from_residual.ensures.1 in
    rw (p.1, p.2) (says-refused a.text a.m.now a.first.now a.second.now a.contents.now a.items.now c.in_err-refusal.ensures (numbered c.in_err-refusal.field-0.0))

pub first_point-requires : goal.first_point-requires
first_point-requires c =
    let a = c.args in
    let p = is-ready a.text a.m.now a.first.now a.second.now a.contents.now a.items.now (sym c.in_ok-refusal.ensures) in record { traceable = p.traceable; order = p.ordered }

pub in_modes-counts-requires : goal.in_modes-counts-requires
in_modes-counts-requires c =
    let a = c.args in
    let p = is-ready a.text a.m.now a.first.now a.second.now a.contents.now a.items.now (sym c.in_ok-refusal.ensures) in
    (p.traceable.reaches, p.traceable.ticks)

pub contents-requires : goal.contents-requires
contents-requires c =
    let a = c.args in
    (is-ready a.text a.m.now a.first.now a.second.now a.contents.now a.items.now (sym c.in_ok-refusal.ensures)).runs

pub items-requires : goal.items-requires
items-requires c =
    let a = c.args in
    let p = is-ready a.text a.m.now a.first.now a.second.now a.contents.now a.items.now (sym c.in_ok-refusal.ensures) in
    rw c.in_modes-counts.ensures.0 p.items-enough

pub returns-in_default-clause-value : goal.returns-in_default-clause-value
returns-in_default-clause-value c =
    let a = c.args in
    says-equal a.text a.m.now a.first.now a.second.now a.contents.now a.items.now c.in_ok-refusal.ensures refl c.in_default.ensures

pub returns-clause-value : goal.returns-clause-value
returns-clause-value c =
    let a = c.args in
    says-parted a.text a.m.now a.first.now a.second.now a.contents.now a.items.now c.in_ok-refusal.ensures refl c.in-Some.ensures c.in_modes-counts.ensures.0
    c.contents.ensures c.items.ensures

pub returns-clause-some_point : goal.returns-clause-some_point
returns-clause-some_point c = omega (arith, (found_some _ c.in-Some.ensures).named)

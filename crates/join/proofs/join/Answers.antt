-- `join::join` meets its contract: the numbers are the questions', and what is let through is stored.
-- Assumes nothing.
use mathlib.Core.Path.{refl}
use Rattle.std.proofs.lemmas.Result.{err_from_is_err_and}
use Rattle.base_questions.proofs.Refusals.{numbered}
use Rattle.join.proofs.Answers.{refused-first, both-usable, refused-pair, both-fit, both-joined}
use Rattle.join.proofs.join.Goals as goal

pub returns-in_err-machines_refusal : goal.returns-in_err-machines_refusal
returns-in_err-machines_refusal c =
    let a = c.args in
    let p = err_from_is_err_and c.from_residual.result c.from_residual.ensures.1 in
    rw (p.1, p.2) (refused-first a.m.now a.second.now c.in_err-machines_refusal.ensures (numbered c.in_err-machines_refusal.field-0.0))

pub uses-used-requires : goal.uses-used-requires
uses-used-requires c =
    let a = c.args in
    (both-usable a.m.now a.second.now c.in_ok-machines_refusal.ensures refl).1

pub pair_refusal-requires : goal.pair_refusal-requires
pair_refusal-requires c = let a = c.args in record { usable = both-usable a.m.now a.second.now c.in_ok-machines_refusal.ensures refl; brought_value = c.uses-used.ensures }

pub returns-in_err-pair_refusal : goal.returns-in_err-pair_refusal
returns-in_err-pair_refusal c =
    let a = c.args in
    let p = err_from_is_err_and c.from_residual-in_err-pair_refusal.result c.from_residual-in_err-pair_refusal.ensures.1 in
    rw (p.1, p.2)
    (refused-pair a.m.now a.second.now c.in_ok-machines_refusal.ensures refl c.in_err-pair_refusal.ensures (numbered c.in_err-pair_refusal.field-0.0))

pub store-requires : goal.store-requires
store-requires c =
    let a = c.args in
    let usable = both-usable a.m.now a.second.now c.in_ok-machines_refusal.ensures refl in
    (usable.0.reaches, usable.1.reaches, both-fit a.m.now a.second.now c.in_ok-machines_refusal.ensures refl c.in_ok-pair_refusal.ensures refl)

pub returns : goal.returns
returns c =
    let a = c.args in
    both-joined a.m.now a.second.now c.in_ok-machines_refusal.ensures refl c.in_ok-pair_refusal.ensures refl c.uses-used.ensures c.store.ensures

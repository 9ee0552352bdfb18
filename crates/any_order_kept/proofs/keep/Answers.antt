-- `any_order_kept::keep` meets its contract: what is made is the machine's own.
-- Assumes nothing.
use mathlib.Core.Path.{refl, sym}
use Rattle.std.proofs.lemmas.Result.{err_from_is_err_and}
use Rattle.base_questions.proofs.Refusals.{numbered}
use Rattle.base_lists.specs.Lists.{zeros}
use Rattle.any_order.proofs.Answers.{is-countable}
use Rattle.any_order_kept.proofs.Calls.{keep-refused, keep-made}
use Rattle.any_order_kept.proofs.keep.Goals as goal

pub returns-in_err-refusal : goal.returns-in_err-refusal
returns-in_err-refusal c =
    let a = c.args in
    let p = err_from_is_err_and c.from_residual.result c.from_residual.ensures.1 in
    rw (p.1, p.2)
    (keep-refused a.m.now c.in_err-refusal.ensures a.kept.now (numbered c.in_err-refusal.field-0.0))

pub count-requires : goal.count-requires
unfolding zeros
count-requires c = record { countable = is-countable c.args.m.now (sym c.in_ok-refusal.ensures); kept_value = refl }

pub returns : goal.returns
returns c =
    let a = c.args in
    keep-made a.m.now c.in_ok-refusal.ensures a.kept.now refl c.count.ensures c.answer.ensures

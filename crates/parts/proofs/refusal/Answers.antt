-- `parts::refusal` meets its contract: the questions of a compare, then two more.
-- Assumes nothing.
use mathlib.Core.Path.{sym, ◌∙◌}
use Rattle.base_questions.proofs.Refusals.{numbered, handed_on}
use Rattle.compare.proofs.Asked.{is-comparable}
use Rattle.parts.proofs.Answers.{refused-compare, refused-run, refused-items, none-refused}
use Rattle.parts.proofs.refusal.Goals as goal

pub returns-in_err-refusal : goal.returns-in_err-refusal
returns-in_err-refusal c =
    let a = c.args in
    handed_on _ _ c.from_residual.ensures.1
    ∙ refused-compare a.text a.m.now a.first.now a.second.now a.contents.now a.items.now c.in_err-refusal.ensures (numbered _)

pub returns-then-contents-ne-MACHINE_LENGTH : goal.returns-then-contents-ne-MACHINE_LENGTH
returns-then-contents-ne-MACHINE_LENGTH c =
    let a = c.args in
    refused-run a.text a.m.now a.first.now a.second.now a.contents.now a.items.now (sym c.in_ok-refusal.ensures) c.if-contents-ne-MACHINE_LENGTH.true

pub in_modes-counts-requires : goal.in_modes-counts-requires
in_modes-counts-requires c =
    let a = c.args in
    let p = is-comparable a.text a.m.now a.first.now a.second.now (sym c.in_ok-refusal.ensures) in
    (p.traceable.reaches, p.traceable.ticks)

pub returns-then-items-counts : goal.returns-then-items-counts
returns-then-items-counts c =
    let a = c.args in
    refused-items a.text a.m.now a.first.now a.second.now a.contents.now a.items.now (sym c.in_ok-refusal.ensures) c.if-contents-ne-MACHINE_LENGTH.false c.in_modes-counts.ensures.0 c.if-items-counts.true

pub returns : goal.returns
returns c =
    let a = c.args in
    none-refused a.text a.m.now a.first.now a.second.now a.contents.now a.items.now (sym c.in_ok-refusal.ensures) c.if-contents-ne-MACHINE_LENGTH.false c.in_modes-counts.ensures.0 c.if-items-counts.false

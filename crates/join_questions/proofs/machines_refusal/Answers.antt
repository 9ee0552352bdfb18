-- `join_questions::machines_refusal` meets its contract: the second machine is asked where the first is let through.
-- Assumes nothing.
use mathlib.Core.Path.{refl, ◌∙◌}
use Rattle.base_questions.proofs.Refusals.{numbered, handed_on}
use Rattle.join_questions.proofs.Answers.{first-refuses, second-asked}
use Rattle.join_questions.proofs.machines_refusal.Goals as goal

pub returns-in_err-refusal : goal.returns-in_err-refusal
returns-in_err-refusal c =
    let a = c.args in
    handed_on _ _ c.from_residual.ensures.1 ∙ first-refuses a.m.now a.second.now c.in_err-refusal.ensures (numbered _)

pub returns : goal.returns
returns c =
    let a = c.args in
    second-asked a.m.now a.second.now c.in_ok-refusal.ensures refl c.refusal-2.ensures

-- `command::take` meets its contract: refused, or done.
-- Assumes nothing.
use mathlib.Core.Path.{◌≡◌, sym, ◌∙◌}
use mathlib.Core.Logic.{◌≢◌}
use Rattle.base_questions.proofs.Refusals.{numbered, handed_on}
use Rattle.command_built.specs.Built.{command_refusal}
use Rattle.command.proofs.Turns.{refused-answer, refused-waits, refused-leaves, passed-waits, passed-does}
use Rattle.command.proofs.take.Goals as goal

pub returns-in_err-refusal : goal.returns-in_err-refusal
returns-in_err-refusal c =
    let a = c.args in
    let q = c.in_err-refusal.ensures in
    let e : command_refusal a.c ≢ 0 = λ p. numbered _ (q ∙ p) in
    let r = c.from_residual.ensures.1 in
    (handed_on _ _ r ∙ q, refused-answer _ _ _ r ∙ sym (refused-waits a.m.now a.c e), sym (refused-leaves a.m.now a.c e))

pub returns : goal.returns
returns c =
    let a = c.args in
    let e : command_refusal a.c ≡ 0 = sym c.in_ok-refusal.ensures in
    (sym e, c.perform.ensures.0 ∙ sym (passed-waits a.m.now a.c e), c.perform.ensures.1 ∙ sym (passed-does a.m.now a.c e))

-- `command_built::refusal` meets its contract: the two answers are the questions'.
-- Assumes nothing.
use mathlib.Core.Path.{◌≡◌, refl, sym, ◌∙◌}
use mathlib.Core.Bool.{true, false}
use Rattle.base_questions.specs.Questions.{asked}
use Rattle.command_built.specs.Built.{built, ticks_fit, command_refusal}
use Rattle.command_built.proofs.refusal.Goals as goal

pub returns-then-not-built : goal.returns-then-not-built
unfolding command_refusal asked
returns-then-not-built c =
    let b : built c.args.c ≡ false = sym c.built.ensures ∙ c.if-not-built.true in
    rw b refl

pub returns-then-not-ticks_fit : goal.returns-then-not-ticks_fit
unfolding command_refusal asked
returns-then-not-ticks_fit c =
    let n = c.args.c in
    let b : built n ≡ true = sym c.built.ensures ∙ c.if-not-built.false in
    let f : ticks_fit n ≡ false = sym c.ticks_fit.ensures ∙ c.if-not-ticks_fit.true in
    rw (b, f) refl

pub returns : goal.returns
unfolding command_refusal asked
returns c =
    let n = c.args.c in
    let b : built n ≡ true = sym c.built.ensures ∙ c.if-not-built.false in
    let f : ticks_fit n ≡ true = sym c.ticks_fit.ensures ∙ c.if-not-ticks_fit.false in
    rw (b, f) refl

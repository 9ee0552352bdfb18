-- `machine::refusal` meets its contract.
-- Assumes nothing.
use mathlib.Core.Path.{◌≡◌, refl, sym, ◌∙◌}
use mathlib.Core.Bool.{true, false}
use borrow.Author.Tests.{eq-eqb, ne_eqb}
use lib.ListN.{length}
use Rattle.layout.specs.Layout.{machine_length}
use Rattle.machine.specs.Questions.{valid}
use Rattle.base_questions.specs.Questions.{asked}
use Rattle.machine.proofs.refusal.Goals as goal

pub returns-then-m-ne-MACHINE_LENGTH : goal.returns-then-m-ne-MACHINE_LENGTH
unfolding asked
returns-then-m-ne-MACHINE_LENGTH c = rw (ne_eqb _ _ c.if-m-ne-MACHINE_LENGTH.true) refl

pub returns-then-not-valid : goal.returns-then-not-valid
unfolding asked
returns-then-not-valid c =
    let a = c.args in
    let m = a.m.now in
    let s : valid a.text m ≡ false = sym c.valid.ensures ∙ c.if-not-valid.true in
    rw (eq-eqb (length m) machine_length c.if-m-ne-MACHINE_LENGTH.false, s) refl

pub returns : goal.returns
unfolding asked
returns c =
    let a = c.args in
    let m = a.m.now in
    let s : valid a.text m ≡ true = sym c.valid.ensures ∙ c.if-not-valid.false in
    rw (eq-eqb (length m) machine_length c.if-m-ne-MACHINE_LENGTH.false, s) refl

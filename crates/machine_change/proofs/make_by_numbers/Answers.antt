-- `machine_change::make_by_numbers` meets its contract: there is a change of the numbers, since it is let through, and it is made.
-- Assumes nothing.
use mathlib.Core.Path.{sym, ◌∙◌}
use mathlib.Core.Bool.{true≢false}
use Rattle.machine_change.proofs.Numbers.{let-same, changed-same, none-let}
use Rattle.machine_change.proofs.make_by_numbers.Goals as goal

pub make-requires : goal.make-requires
make-requires c =
    let a = c.args in
    record { m_len = c.requires.m_len; value_value = let-same a.kind a.generator a.value a.m.now c.in-Some.ensures ∙ c.requires.value_value }

pub returns-in-Some : goal.returns-in-Some
returns-in-Some c = let a = c.args in c.make.ensures ∙ changed-same a.kind a.generator a.value a.m.now c.in-Some.ensures

pub returns-in-None : goal.returns-in-None
returns-in-None c =
    let a = c.args in
    absurd (true≢false (sym c.requires.value_value ∙ sym (none-let a.kind a.generator a.value a.m.now c.in-None.ensures)))

-- `machine_change::let_through_by_numbers` meets its contract: the numbers' change is asked, and none is let through where there is none.
-- Assumes nothing.
use mathlib.Core.Path.{◌∙◌}
use Rattle.machine_change.proofs.Numbers.{let-same, none-let}
use Rattle.machine_change.proofs.let_through_by_numbers.Goals as goal

pub returns-in-Some : goal.returns-in-Some
returns-in-Some c = let a = c.args in c.let_through.ensures ∙ let-same a.kind a.generator a.value a.m.now c.in-Some.ensures

pub returns-in-None : goal.returns-in-None
returns-in-None c = let a = c.args in none-let a.kind a.generator a.value a.m.now c.in-None.ensures

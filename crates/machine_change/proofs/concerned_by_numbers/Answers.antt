-- `machine_change::concerned_by_numbers` meets its contract: what the numbers' change concerns, else the generator that they name.
-- Assumes nothing.
use mathlib.Core.Path.{◌∙◌}
use Rattle.machine_change.proofs.Numbers.{concerned-same, none-concerned}
use Rattle.machine_change.proofs.concerned_by_numbers.Goals as goal

pub returns-in-Some : goal.returns-in-Some
returns-in-Some c = let a = c.args in c.concerned.ensures ∙ concerned-same a.kind a.generator 0 a.m.now c.in-Some.ensures

pub returns-in-None : goal.returns-in-None
returns-in-None c = let a = c.args in none-concerned a.kind a.generator 0 a.m.now c.in-None.ensures c.wide.ensures

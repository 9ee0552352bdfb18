-- `compare_roles::awaits` meets its contract: the lowest generators have no lower neighbour, another awaits by its own run mode and the lower one.
-- Assumes nothing.
use mathlib.Core.Path.{◌∙◌}
use Rattle.compare_roles.proofs.Roles.{none-lower, no-wait, by-lower}
use Rattle.compare_roles.proofs.awaits.Goals as goal

pub returns-then-g-distance : goal.returns-then-g-distance
returns-then-g-distance c =
    let a = c.args in
    none-lower a.text a.m.now a.g c.distance-distance.ensures c.if-g-distance.true

pub returns-then-run_mode-ne-WAIT : goal.returns-then-run_mode-ne-WAIT
returns-then-run_mode-ne-WAIT c =
    let a = c.args in
    no-wait a.text a.m.now a.g c.distance-distance.ensures c.if-g-distance.false c.run_mode.ensures c.if-run_mode-ne-WAIT.true

pub returns : goal.returns
returns c =
    let a = c.args in
    c.triggering.ensures
    ∙ by-lower a.text a.m.now a.g c.distance-distance.ensures c.if-g-distance.false c.run_mode.ensures c.if-run_mode-ne-WAIT.false c.run_mode-2.ensures

-- `compare_roles::adding` meets its contract: adding is on in 1111 and in the run modes that can trigger.
-- Assumes nothing.
use mathlib.Core.Path.{sym, ap, ◌∙◌}
use mathlib.Core.Bool.{Bool, ◌||◌}
use lib.Dec.{eqb}
use Rattle.layout_modes.specs.Modes.{running_a}
use Rattle.compare_roles.proofs.Roles.{adds-is}
use Rattle.compare_roles.proofs.adding.Goals as goal

pub returns : goal.returns
returns c =
    let r = c.args.run in
    ap (λ (b : Bool). eqb r running_a || b) c.triggering.ensures ∙ sym (adds-is r)

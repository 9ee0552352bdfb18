-- `trial::generator_turn` meets its contract: a generator that was loaded meets what its turn requires.
-- Assumes nothing.
use Rattle.layout_modes.proofs.Exclusions.{envelope-is}
use borrow.Author.Rules.{rules}
use Rattle.trial.proofs.generator_turn.Goals as goal

pub sounded-requires : goal.sounded-requires
sounded-requires c =
    let on = c.switches_of-on.ensures in
    record { ranged = c.generator_of-unit.ensures; f_bound = search rules; on_value = (on, envelope-is _ _ on c.if-on.true) }

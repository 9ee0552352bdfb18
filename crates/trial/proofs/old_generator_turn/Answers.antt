-- `trial::old_generator_turn` meets its contract: a generator that was loaded meets what its turn by the older text requires.
-- Assumes nothing.
use Rattle.layout_modes.proofs.Exclusions.{envelope-is}
use Rattle.layout_old_modes.proofs.RunModes.{switched-low}
use borrow.Author.Rules.{rules}
use Rattle.trial.proofs.old_generator_turn.Goals as goal

pub switches_of-on-requires : goal.switches_of-on-requires
switches_of-on-requires c = rw c.run_mode-run.ensures (switched-low _ _)

pub play-requires : goal.play-requires
play-requires c =
    let on = c.switches_of-on.ensures in
    rw (← c.run_mode-run.ensures)
    record { ranged = c.generator_of-unit.ensures; on_value = (on, envelope-is _ _ on c.if-on.true); f_bound = search rules }

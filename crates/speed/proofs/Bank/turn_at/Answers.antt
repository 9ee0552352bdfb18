-- `speed::Bank::turn_at` meets its contract: a generator that was loaded meets what its turn requires.
-- Assumes nothing.
use Rattle.layout_modes.proofs.Exclusions.{envelope-is}
use Rattle.speed.proofs.Bank.turn_at.Goals as goal

pub sound_at-requires : goal.sound_at-requires
sound_at-requires c =
    let on = c.switches_of-on.ensures in
    record { n_bound = c.requires; ranged = c.generator_at-unit.ensures; on_value = (on, envelope-is _ _ on c.if-on.true) }

-- `take_waiting` meets its contract: the turn as it is told, put back.
use Rattle.pass_model.proofs.Puts.{generator-ranged}
use Rattle.pass_generators.proofs.take_waiting.Goals as goal

pub turn_waiting-after-requires : goal.turn_waiting-after-requires
turn_waiting-after-requires c = let is-unit = c.generator_at-unit.ensures in record { ranged = rw is-unit (generator-ranged _ _); unit_value = (rw is-unit c.requires.g_value.0, c.requires.g_value.1) }

pub returns : goal.returns
returns c = rw (c.put_generator_at.ensures, c.turn_waiting-after.ensures, c.triggered_below-below.ensures, c.generator_at-unit.ensures)

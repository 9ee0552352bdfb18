-- `take_playing` meets its contract: what the generator brings is put back, marked and heard.
use Rattle.generator_turn.proofs.Turns.{sounded-p-low}
use Rattle.pass_outputs.specs.AsCoded.{triggering}
use Rattle.pass_model.proofs.Puts.{generator-ranged}
use Rattle.pass_generators.proofs.Steps.{sounds-by}
use Rattle.pass_generators.proofs.take_playing.Goals as goal

pub turn_playing-sounded-requires : goal.turn_playing-sounded-requires
turn_playing-sounded-requires c = let is-unit = c.generator_at-unit.ensures in record { ranged = rw is-unit (generator-ranged _ _); on_value = rw is-unit c.requires.on_value; f_bound = c.requires.f_bound.0 }

pub add_output-requires : goal.add_output-requires
unfolding triggering
add_output-requires c = (rw c.generator_at-unit.ensures (generator-ranged _ _).gsum-low, rw c.turn_playing-sounded.ensures (sounded-p-low c.args.text c.generator_at-unit.result c.args.f), rw c.mark.ensures c.requires.f_bound.2)

pub returns : goal.returns
returns c =
    let on = rw (← c.generator_at-unit.ensures) at c.requires.on_value.0 in
    rw (← c.generator_at-unit.ensures)
    (sounds-by _ _ _ _ _ _ on c.turn_playing-sounded.ensures c.put_generator_at.ensures c.mark.ensures c.add_output.ensures)

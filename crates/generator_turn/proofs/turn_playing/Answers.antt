-- `generator_turn::turn_playing` meets its contract by the text, which tells what is on.
use Rattle.generator_turn.proofs.turn_playing.Goals as goal

pub play-requires : goal.play-requires
play-requires c = record { ranged = c.requires.ranged; on_value = rw c.in-Of1978.is at c.requires.on_value; f_bound = c.requires.f_bound }

pub play-requires-in-Old : goal.play-requires-in-Old
play-requires-in-Old c = record { ranged = c.requires.ranged; on_value = rw c.in-Old.is at c.requires.on_value; f_bound = c.requires.f_bound }

pub returns-in-Of1978 : goal.returns-in-Of1978
returns-in-Of1978 c = rw c.in-Of1978.is c.play.ensures

pub returns-in-Old : goal.returns-in-Old
returns-in-Old c = rw c.in-Old.is c.play-in-Old.ensures

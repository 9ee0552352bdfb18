-- `generator_turn::sends` meets its contract by the text.
use Rattle.generator_turn.proofs.sends.Goals as goal

pub returns-in-Old : goal.returns-in-Old
returns-in-Old c = rw c.in-Old.is c.angle.ensures

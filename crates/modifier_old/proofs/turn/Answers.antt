-- `modifier_old::turn` meets its contract: the turn of the modifier with AA and BB exchanged, and MMODE as it was.
-- Assumes nothing.
use Rattle.modifier_old.specs.OldTurn.{old_turn_of}
use Rattle.modifier_old.proofs.Turns.{exchanged-ranged}
use Rattle.modifier_old.proofs.turn.Goals as goal

pub turn_by-t-requires : goal.turn_by-t-requires
turn_by-t-requires c = record { ranged = rw c.exchanged.ensures (exchanged-ranged _ c.requires.ranged); a_bound = c.requires.a_bound }

pub returns : goal.returns
unfolding old_turn_of
returns c = rw (c.gives.ensures, c.turn_by-t.ensures, c.exchanged.ensures, c.function.ensures)

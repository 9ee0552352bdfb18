-- `modifier_at` meets its contract: the part of the machine that is handed on runs to its end.
use Rattle.base_lists.proofs.Parts.{part-from}
use Rattle.pass_model.specs.Modifiers.{modifier_of}
use Rattle.pass_registers.proofs.modifier_at.Goals as goal

pub returns : goal.returns
unfolding modifier_of
returns c = rw (c.load.ensures, part-from, c.place-at.ensures)

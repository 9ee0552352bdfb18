-- `replace` meets its contract: the sum with the item, and the mark where it leaves its range.
use mathlib.Core.Path.{refl}
use Rattle.pass_outputs.proofs.Taking.replace.Goals as goal

pub returns : goal.returns
returns c = rw (c.mark_left.ensures, c.replace.ensures, c.leaves_range-replaced.ensures, c.add.ensures.as_signed, c.word_at-item.ensures) refl

-- `plain` meets its contract: the promises of its calls, one after the other.
-- Assumes nothing.
use mathlib.Core.Path.{refl}
use Rattle.pass_modifiers.proofs.plain.Goals as goal

pub returns : goal.returns
returns c = rw (c.put_modifier_at.ensures, c.turned-turn.ensures) (refl, refl)

-- `step` meets its contract: the promises of its calls, one after the other.
-- Assumes nothing.
use Rattle.modifier.proofs.Low.{loaded-ranged}
use Rattle.pass_model.specs.Modifiers.{modifier_of}
use Rattle.pass_model.proofs.Modifiers.{turn-seen-low}
use Rattle.pass_modifiers.specs.AsCoded.{lag_step}
use borrow.Author.Rules.{rules}
use Rattle.pass_modifiers.proofs.step.Goals as goal

pub taken-value-requires : goal.taken-value-requires
unfolding modifier_of
taken-value-requires c = record { reaches = search rules; k_bound = search rules; ranged = rw c.modifier_at-u.ensures (loaded-ranged _) }

pub put-left-requires : goal.put-left-requires
put-left-requires c = rw (c.taken-value.ensures.0, c.modifier_at-u.ensures) (turn-seen-low _ _ _ _ _ _ _).s-low

pub returns : goal.returns
unfolding lag_step
returns c = rw (c.taken-value.ensures.1, c.put-left.ensures.1, c.put-left.ensures.0, c.taken-value.ensures.0, c.modifier_at-u.ensures, c.catch_up.ensures)

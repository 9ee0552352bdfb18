-- `modifier_turn::reads_late` meets its contract: one test over the 32 codes.
-- Assumes nothing.
use mathlib.Core.Path.{◌∙◌}
use Rattle.base_lists.proofs.Masks.{bit-tests}
use Rattle.modifier_turn.specs.Turn.{reads_late}
use Rattle.modifier_turn.proofs.reads_late.Goals as goal

pub returns : goal.returns
unfolding reads_late
returns c = c.bit.ensures ∙ bit-tests _ reads_late 32 tt _ c.requires

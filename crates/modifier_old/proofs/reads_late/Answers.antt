-- `modifier_old::reads_late` meets its contract: one test over the 32 codes.
-- Assumes nothing.
use mathlib.Core.Path.{◌∙◌}
use Rattle.base_lists.proofs.Masks.{bit-tests}
use Rattle.modifier_old.specs.OldTurn.{old_reads_late}
use Rattle.modifier_old.proofs.reads_late.Goals as goal

pub returns : goal.returns
unfolding old_reads_late
returns c = c.bit.ensures ∙ bit-tests _ old_reads_late 32 tt _ c.requires

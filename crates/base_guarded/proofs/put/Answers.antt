-- `base_guarded::put` meets its contract: past the end nothing is written.
-- Assumes nothing.
use mathlib.Core.Path.{sym}
use lib.Seq.{set_out}
use Rattle.base_guarded.proofs.put.Goals as goal

pub returns-else-at-run : goal.returns-else-at-run
returns-else-at-run c = sym (set_out _ _ _ c.if-at-run.false)

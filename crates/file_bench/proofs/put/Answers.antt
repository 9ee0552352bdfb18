-- `file_bench::put` meets its contract: a place past the end is set by nothing.
-- Assumes nothing.
use mathlib.Core.Path.{sym}
use lib.Seq.{set_out}
use Rattle.file_bench.proofs.put.Goals as goal

pub returns-else-at-m : goal.returns-else-at-m
returns-else-at-m c = sym (set_out _ _ _ c.if-at-m.false)

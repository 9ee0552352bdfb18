-- `file_bench::load` meets its contract: the lines that are left set what all lines set.
-- Assumes nothing.
use mathlib.Core.Path.{◌≡◌}
use lib.ListN.{length}
use Rattle.file_lines.specs.Lines.{lines_of}
use Rattle.file_bench.proofs.Loading as loading
use Rattle.file_bench.proofs.load.Given as goal

abbrev pub invariant-loop-line : goal.invariant-loop-line
invariant-loop-line l =
    (length l.m ≡ length l.initial.m) × (length l.room ≡ length l.initial.room) × loading.Loading l.file l.initial.m l.initial.room (lines_of l.line-iterator.0.now) l.count l.m l.room

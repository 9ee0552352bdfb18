-- `file_bench::judge` meets its contract: the lines that are left make the whole file's outline.
-- Assumes nothing.
use Rattle.file_lines.specs.Lines.{lines_of}
use Rattle.file_bench.proofs.Judging as judging
use Rattle.file_bench.proofs.judge.Given as goal

abbrev pub invariant-loop-line : goal.invariant-loop-line
invariant-loop-line l = judging.Judging l.file (lines_of l.line-iterator.0.now) l.reading

-- `file_order::read_lines` meets its contract: the lines that are left make what reading answers.
-- Assumes nothing.
use Rattle.file_lines.specs.Lines.{lines_of}
use Rattle.file_order.proofs.Lines as lines
use Rattle.file_order.proofs.read_lines.Given as goal

abbrev pub invariant-loop-line : goal.invariant-loop-line
invariant-loop-line l = lines.Reading l.file (lines_of l.line-iterator.0.now) l.count l.entries

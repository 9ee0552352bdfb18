-- `sorted_lines::order_lines` meets its contract: the lines of the entries that are left, put after those that are there, make all.
-- Assumes nothing.
use Rattle.sorted_lines.proofs.Lines.{Lining}
use Rattle.sorted_lines.proofs.order_lines.Given as goal

abbrev pub invariant-loop-entry : goal.invariant-loop-entry
invariant-loop-entry l = Lining l.initial.out l.order l.out l.at l.entry-index

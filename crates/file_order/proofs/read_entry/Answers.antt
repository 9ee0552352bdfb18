-- `file_order::read_entry` meets its contract: the start, then a number.
-- Assumes nothing.
use mathlib.Core.Path.{sym, ◌∙◌}
use Rattle.file_lines.proofs.LineKinds.{stripped}
use Rattle.file_order.specs.OrderFile.{order_start}
use Rattle.file_order.proofs.Lines as lines
use Rattle.file_order.proofs.read_entry.Goals as goal

pub returns-in-Some : goal.returns-in-Some
returns-in-Some c =
    let q = c.in-Some.ensures.cases in
    lines.entry_named _ (sym (stripped _ order_start) ∙ q.0) q.1 c.decimal.ensures

pub returns-in-None : goal.returns-in-None
returns-in-None c = lines.entry-none _ (sym (stripped _ order_start) ∙ c.in-None.ensures.cases)

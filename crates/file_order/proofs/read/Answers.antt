-- `file_order::read` meets its contract: its last line has to end, then its lines are read.
-- Assumes nothing.
use mathlib.Core.Path.{sym, ◌∙◌}
use Rattle.file_order.proofs.Lines as lines
use Rattle.file_order.proofs.read.Goals as goal

pub returns-then-not-ended : goal.returns-then-not-ended
returns-then-not-ended c =
    lines.none-told
    ∙ lines.unended c.args.file.now (sym c.ended.ensures ∙ c.if-not-ended.true)

pub read_lines-requires : goal.read_lines-requires
read_lines-requires c = sym c.ended.ensures ∙ c.if-not-ended.false

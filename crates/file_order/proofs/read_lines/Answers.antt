-- `file_order::read_lines` meets its contract: the lines that are left make what reading answers.
-- Assumes nothing.
use mathlib.Core.Path.{◌∙◌}
use Rattle.file_order.proofs.Lines as lines
use Rattle.file_order.proofs.read_lines.Goals as goal

pub loop-line-init : goal.loop-line-init
loop-line-init c = rw c.into_iter-line-iterator.ensures.into_iter_gives (lines.begins c.args.file.now c.requires)

pub returns-in_default : goal.returns-in_default
returns-in_default c = lines.none-told ∙ lines.no-entry c.loop-line.invariant c.in-Some.ensures.steps c.read_entry.ensures c.in_default.is

pub returns-then-count-ge-GENERATORS : goal.returns-then-count-ge-GENERATORS
returns-then-count-ge-GENERATORS c = lines.none-told ∙ lines.no_room c.loop-line.invariant c.in-Some.ensures.steps c.if-count-ge-GENERATORS.true

pub loop-line-preserved : goal.loop-line-preserved
loop-line-preserved c = lines.goes_on c.loop-line.invariant c.in-Some.ensures.steps c.read_entry.ensures c.in-Some-read_entry.is c.if-count-ge-GENERATORS.false

pub returns : goal.returns
returns c = lines.ends c.loop-line.invariant c.in-None.ensures.steps.0

-- `file_bench::judge_file` meets its contract: its questions first, then what the lines say.
-- Assumes nothing.
use mathlib.Core.Path.{sym, ◌∙◌}
use Rattle.file_bench.proofs.WholeFile as whole
use Rattle.file_bench.proofs.judge_file.Goals as goal

pub returns-then-not-ended : goal.returns-then-not-ended
returns-then-not-ended c = whole.unended c.args.file.now c.ended.ensures c.if-not-ended.true

pub judge-reading-requires : goal.judge-reading-requires
judge-reading-requires c = sym c.ended.ensures ∙ c.if-not-ended.false

pub returns-then-not-fit : goal.returns-then-not-fit
returns-then-not-fit c =
    whole.unfit c.args.file.now c.ended.ensures c.if-not-ended.false c.judge-reading.ensures (sym c.fit.ensures ∙ c.if-not-fit.true)

pub returns-in_default : goal.returns-in_default
returns-in_default c =
    whole.unknown c.args.file.now c.ended.ensures c.if-not-ended.false c.judge-reading.ensures (sym c.fit.ensures ∙ c.if-not-fit.false) c.in_default.is

pub returns : goal.returns
returns c =
    whole.fit c.args.file.now c.ended.ensures c.if-not-ended.false c.judge-reading.ensures (sym c.fit.ensures ∙ c.if-not-fit.false) c.in-Some.is

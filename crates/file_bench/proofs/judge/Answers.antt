-- `file_bench::judge` meets its contract: the lines that are left make the whole file's outline.
-- Assumes nothing.
use Rattle.file_bench.proofs.Judging as judging
use Rattle.file_bench.proofs.judge.Goals as goal

pub loop-line-init : goal.loop-line-init
loop-line-init c = rw c.into_iter-line-iterator.ensures.into_iter_gives (judging.begins c.args.file.now c.requires)

pub judge_line-reading-requires : goal.judge_line-reading-requires
judge_line-reading-requires c = judging.room_for c.loop-line.invariant c.in-Some.ensures.steps

pub loop-line-preserved : goal.loop-line-preserved
loop-line-preserved c = judging.goes_on c.loop-line.invariant c.in-Some.ensures.steps (rw c.read_line.ensures at c.judge_line-reading.ensures)

pub returns : goal.returns
returns c = judging.ends c.loop-line.invariant c.in-None.ensures.steps.0

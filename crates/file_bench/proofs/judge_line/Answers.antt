-- `file_bench::judge_line` meets its contract: each kind of line sets its part.
-- Assumes nothing.
use mathlib.Core.Path.{sym}
use native.Mathlib.Nat.{add-zero}
use Rattle.file_bench.proofs.Judging.{judged, judged-same}
use Rattle.file_bench.proofs.judge_line.Goals as goal

pub returns-in-Titled : goal.returns-in-Titled
returns-in-Titled c =
    let a = c.args in
    let l = c.in-Titled.is in
    judged a.reading a.line (rw l) c.phase_after-phase.ensures (rw l) (rw l (sym (add-zero _)))

pub returns-in-Passes : goal.returns-in-Passes
returns-in-Passes c =
    let a = c.args in
    let l = c.in-Passes.is in
    judged a.reading a.line (rw l) c.phase_after-phase.ensures (rw l) (rw l (sym (add-zero _)))

pub returns-in-Command : goal.returns-in-Command
returns-in-Command c =
    let a = c.args in
    let l = c.in-Command.is in
    judged a.reading a.line (rw l) c.phase_after-phase.ensures (rw l) (rw l)

pub returns-in-Word : goal.returns-in-Word
returns-in-Word c = judged-same c.args.reading c.args.line c.in-Word.is c.phase_after-phase.ensures

-- `Lines::next` meets its contract: it cuts the first line off.
-- Assumes nothing.
use mathlib.Core.Path.{ap}
use native.Mathlib.Omega.{arith}
use borrow.Author.Rules.{rules}
use lib.ListN.{length}
use Rattle.file_lines.proofs.FileLines.{no-lines, last-line, cut-line}
use Rattle.file_lines.proofs.LinesIterator.next.Goals as goal

pub returns-then-is_empty-clause-steps : goal.returns-then-is_empty-clause-steps
returns-then-is_empty-clause-steps c = let e = no-lines c.args.self.now.0.now (search rules) in (e, e)

pub returns-then-left-k-clause-steps : goal.returns-then-left-k-clause-steps
returns-then-left-k-clause-steps c = last-line c.args.self.now.0.now (search rules) (omega (arith, c.find-k.ensures))

pub returns-then-left-k-clause-goes : goal.returns-then-left-k-clause-goes
returns-then-left-k-clause-goes c =
    let e = last-line c.args.self.now.0.now (search rules) (omega (arith, c.find-k.ensures)) in
    record { on = λ h. (search rules, search rules, omega (arith, ap length e)); keeps = search rules; rests = search rules }

pub returns-clause-steps : goal.returns-clause-steps
returns-clause-steps c = cut-line c.args.self.now.0.now c.find-k.ensures c.if-left-k.false

pub returns-clause-goes : goal.returns-clause-goes
returns-clause-goes c =
    let e = cut-line c.args.self.now.0.now c.find-k.ensures c.if-left-k.false in
    record { on = λ h. (search rules, search rules, omega (arith, ap length e)); keeps = search rules; rests = search rules }

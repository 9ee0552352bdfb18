-- `join_questions::apart` meets its contract: none of the marks passed stands in both.
-- Assumes nothing.
use mathlib.Core.Path.{◌≡◌}
use native.Mathlib.Omega.{arith}
use Rattle.join_questions.proofs.Answers.{apart_none, apart_next}
use Rattle.join_questions.proofs.apart.Goals as goal

pub loop-k-init : goal.loop-k-init
loop-k-init c = let a = c.args in apart_none a.first.now a.second.now a.at

pub loop-k-preserved : goal.loop-k-preserved
loop-k-preserved c =
    let a = c.args in
    apart_next a.first.now a.second.now a.at c.loop-k.k c.loop-k.invariant

pub returns : goal.returns
returns c =
    let e : c.loop-k.k ≡ c.args.n = omega arith in
    rw (← e) c.loop-k.invariant

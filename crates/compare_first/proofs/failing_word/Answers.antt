-- `compare_first::failing_word` meets its contract: a word at which the point fails has a generator that is to sound.
-- Assumes nothing.
use mathlib.Core.Path.{◌∙◌}
use native.Mathlib.Omega.{arith}
use Rattle.compare_first.proofs.Agreeing.{told_some, told_none, no_word, failing-at, some_word}
use Rattle.compare_first.proofs.failing_word.Goals as goal

pub returns-in_err-w : goal.returns-in_err-w
returns-in_err-w c =
    let o = c.args.orders.now in
    c.from_residual.ensures ∙ no_word o.text o.m.now o.first.now o.second.now (told_none _ _ c.in_err-w.ensures)

pub overflow_cast-result : goal.overflow_cast-result
overflow_cast-result c =
    let o = c.args.orders.now in
    omega (arith, (failing-at o.text o.m.now o.first.now o.second.now (told_some _ _ c.in_ok-w.ensures)).0)

pub sounding-requires : goal.sounding-requires
sounding-requires c =
    let o = c.args.orders.now in
    failing-at o.text o.m.now o.first.now o.second.now (told_some _ _ c.in_ok-w.ensures)

pub returns : goal.returns
returns c =
    let o = c.args.orders.now in
    some_word o.text o.m.now o.first.now o.second.now (told_some _ _ c.in_ok-w.ensures) c.sounding.ensures

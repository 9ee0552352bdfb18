-- `compare_first::first_failing` meets its contract: each point is asked where those before it hold.
-- Assumes nothing.
use native.Mathlib.Omega.{arith}
use Rattle.compare_first.proofs.Agreeing.{told_some, told_none, neighbour-below, first-fails, feeder-below, second-fails, writer-below, third-fails, fourth}
use Rattle.compare_first.proofs.first_failing.Goals as goal

pub overflow_cast-result : goal.overflow_cast-result
overflow_cast-result c =
    let o = c.args.orders.now in
    omega (arith, o.traceable.ticks, neighbour-below o.text o.m.now o.first.now o.second.now (told_some _ _ c.in-Some.ensures))

pub returns-in-Some : goal.returns-in-Some
returns-in-Some c =
    let o = c.args.orders.now in
    first-fails o.text o.m.now o.first.now o.second.now (told_some _ _ c.in-Some.ensures)

pub overflow_cast-result-in-Some-feeder_point : goal.overflow_cast-result-in-Some-feeder_point
overflow_cast-result-in-Some-feeder_point c =
    let o = c.args.orders.now in
    omega (arith, feeder-below o.text o.m.now o.first.now o.second.now (told_none _ _ c.in_default.ensures) (told_some _ _ c.in-Some-feeder_point.ensures))

pub returns-in-Some-feeder_point : goal.returns-in-Some-feeder_point
returns-in-Some-feeder_point c =
    let o = c.args.orders.now in
    second-fails o.text o.m.now o.first.now o.second.now (told_none _ _ c.in_default.ensures) (told_some _ _ c.in-Some-feeder_point.ensures)

pub overflow_cast-result-in-Some-writer_point : goal.overflow_cast-result-in-Some-writer_point
overflow_cast-result-in-Some-writer_point c =
    let o = c.args.orders.now in
    omega (arith, writer-below o.text o.m.now o.first.now o.second.now (told_none _ _ c.in_default.ensures) (told_none _ _ c.in_default-feeder_point.ensures) (told_some _ _ c.in-Some-writer_point.ensures) o.traceable)

pub returns-in-Some-writer_point : goal.returns-in-Some-writer_point
returns-in-Some-writer_point c =
    let o = c.args.orders.now in
    third-fails o.text o.m.now o.first.now o.second.now (told_none _ _ c.in_default.ensures) (told_none _ _ c.in_default-feeder_point.ensures) (told_some _ _ c.in-Some-writer_point.ensures)

pub returns : goal.returns
returns c =
    let o = c.args.orders.now in
    fourth o.text o.m.now o.first.now o.second.now (told_none _ _ c.in_default.ensures) (told_none _ _ c.in_default-feeder_point.ensures) (told_none _ _ c.in_default-writer_point.ensures) c.failing_word.ensures

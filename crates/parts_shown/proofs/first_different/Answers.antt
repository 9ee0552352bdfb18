-- `parts_shown::first_different` meets its contract: the first place at which what is left differs, counted from the place reached.
-- Assumes nothing.
use native.Mathlib.Omega.{arith}
use Rattle.parts_shown.proofs.Different.{none_left, shorter, other_word, same_word}
use Rattle.parts_shown.proofs.first_different.Goals as goal

pub returns-then-second-i : goal.returns-then-second-i
returns-then-second-i c =
    let a = c.args in
    omega (arith, c.loop-i.invariant, shorter a.first.now a.second.now c.loop-i.i c.loop-i-test.true c.if-second-i.true)

pub returns-then-first-i : goal.returns-then-first-i
returns-then-first-i c =
    let a = c.args in
    omega (arith, c.loop-i.invariant, other_word a.first.now a.second.now c.loop-i.i c.loop-i-test.true c.if-second-i.false c.if-first-i.true)

pub loop-i-preserved : goal.loop-i-preserved
loop-i-preserved c =
    let a = c.args in
    omega (arith, c.loop-i.invariant, same_word a.first.now a.second.now c.loop-i.i c.loop-i-test.true c.if-second-i.false c.if-first-i.false)

pub returns : goal.returns
returns c =
    let a = c.args in
    omega (arith, c.loop-i.invariant, none_left a.first.now a.second.now c.loop-i.i c.loop-i-test.false)

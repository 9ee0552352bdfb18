-- `file_bytes::find` meets its contract: the byte stands as far behind as in what is left.
-- Assumes nothing.
use native.Mathlib.Omega.{arith}
use Rattle.file_bytes.proofs.Searches as searches
use Rattle.file_bytes.proofs.find.Goals as goal

pub returns-then-b-x : goal.returns-then-b-x
returns-then-b-x c = omega (arith, c.loop-i.invariant, searches.before-hit c.args.bytes.now c.loop-i.i c.args.x c.loop-i-test.true c.if-b-x.true)

pub loop-i-preserved : goal.loop-i-preserved
loop-i-preserved c = omega (arith, c.loop-i.invariant, searches.before-miss c.args.bytes.now c.loop-i.i c.args.x c.loop-i-test.true c.if-b-x.false)

pub returns : goal.returns
returns c = omega (arith, c.loop-i.invariant, searches.before-none c.args.bytes.now c.loop-i.i c.args.x c.loop-i-test.false)

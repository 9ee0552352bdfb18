-- `delay_questions::lines_good` meets its contract: every modifier passed has a good line, or none that runs.
-- Assumes nothing.
use mathlib.Core.Path.{◌≡◌, sym, ◌∙◌}
use Prim.Native.Nat.{◌/◌}
use native.Mathlib.Omega.{arith}
use Rattle.layout.specs.Machine.{ticks_of}
use Rattle.delay_questions.specs.Questions.{good_line, lines_good}
use Rattle.delay_questions.proofs.Stops.{below-stops}
use Rattle.delay_questions.proofs.lines_good.Goals as goal

pub returns-then-not-good_line : goal.returns-then-not-good_line
unfolding lines_good
returns-then-not-good_line c =
    let m = c.args.m.now in
    let stops = sym c.good_line.ensures ∙ c.if-not-good_line.true in
    sym (below-stops (good_line m) c.loop-k.k (ticks_of m / 2) (omega (arith, c.modifiers-k-end.ensures)) stops)

pub returns : goal.returns
unfolding lines_good
returns c =
    let e : c.loop-k.k ≡ ticks_of c.args.m.now / 2 = omega (arith, c.modifiers-k-end.ensures) in
    rw (← e) (sym c.loop-k.invariant)

-- `delay_questions::named_once` meets its contract: the marks are those of the units that the modifiers passed invoke, each of them once.
-- Assumes nothing.
use mathlib.Core.Path.{◌≡◌, refl, sym, ◌∙◌}
use Prim.Native.Nat.{◌/◌}
use native.Mathlib.Omega.{arith}
use Rattle.layout.specs.Machine.{ticks_of}
use Rattle.delay_questions.proofs.Stops.{below_next, below-stops}
use Rattle.delay_questions.proofs.Named.{fresh, marks-none, marks-tell, marks-next, once-fresh}
use Rattle.delay_questions.proofs.named_once.Goals as goal

pub loop-k-init : goal.loop-k-init
loop-k-init c = (marks-none _, refl)

pub returns-then-not-mark : goal.returns-then-not-mark
returns-then-not-mark c =
    let m = c.args.m.now in
    let stops = sym (marks-tell m c.loop-k.marks c.loop-k.k c.loop-k.invariant.0) ∙ sym c.mark.ensures.value ∙ c.if-not-mark.true in
    sym (once-fresh m ∙ below-stops (fresh m) c.loop-k.k (ticks_of m / 2) (omega (arith, c.modifiers-k-end.ensures)) stops)

pub loop-k-preserved : goal.loop-k-preserved
loop-k-preserved c =
    let m = c.args.m.now in
    let passes = sym (marks-tell m c.loop-k.marks c.loop-k.k c.loop-k.invariant.0) ∙ sym c.mark.ensures.value ∙ c.if-not-mark.false in (
      rw c.mark.ensures.marks_after (marks-next m c.loop-k.marks c.loop-k.k c.loop-k.invariant.0),
      below_next (fresh m) c.loop-k.k passes c.loop-k.invariant.1,
    )

pub returns : goal.returns
returns c =
    let m = c.args.m.now in
    let e : c.loop-k.k ≡ ticks_of m / 2 = omega (arith, c.modifiers-k-end.ensures) in
    sym (once-fresh m ∙ rw (← e) c.loop-k.invariant.1)

-- `join_questions::uses` meets its contract: the generators passed are marked.
-- Assumes nothing.
use mathlib.Core.Path.{◌≡◌}
use native.Mathlib.Omega.{arith}
use Rattle.layout.specs.Machine.{ticks_of}
use Rattle.join_questions.proofs.Marking.{marks-none, marks-next}
use Rattle.join_questions.proofs.uses.Goals as goal

pub ticks-t-requires : goal.ticks-t-requires
ticks-t-requires c = c.requires.reaches

pub loop-g-init : goal.loop-g-init
loop-g-init c = marks-none c.args.m.now

pub mark-requires : goal.mark-requires
mark-requires c = record { usable = c.requires; g_lt_generators = omega (arith, c.ticks-t.ensures, c.requires.ticks) }

pub loop-g-preserved : goal.loop-g-preserved
loop-g-preserved c = marks-next c.args.m.now c.loop-g.g c.loop-g.invariant c.mark.ensures

pub returns : goal.returns
returns c =
    let e : c.loop-g.g ≡ ticks_of c.args.m.now = omega (arith, c.ticks-t.ensures) in
    rw (← e) c.loop-g.invariant

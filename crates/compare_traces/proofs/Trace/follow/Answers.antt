-- `compare_traces::Trace::follow` meets its contract: the entries left, with the trace of those passed, make the whole trace.
-- Assumes nothing.
use mathlib.Core.Path.{sym, ◌∙◌}
use native.Mathlib.Omega.{arith}
use Rattle.compare_traces.specs.AsCoded.{untraced}
use Rattle.compare_traces.proofs.Steps.{counts-next, traced-none, traced-next, traced-all}
use Rattle.compare_traces.proofs.Trace.follow.Goals as goal

pub loop-i-init : goal.loop-i-init
unfolding untraced
loop-i-init c = (traced-none _ c.args.m.now c.args.order.now c.requires.untraced, rw c.requires.untraced (omega arith), rw c.requires.untraced (omega arith))

pub step-requires : goal.step-requires
step-requires c =
    let able = c.requires.traceable.0 in
    let low = c.requires.order.below c.loop-i.i c.loop-i-test.true in record {
      traceable = able;
      runs_of = (c.requires.traceable.1, omega (arith, c.wide.ensures, low));
      i_lt_generators = (
        omega (arith, able.ticks, c.requires.order.entries),
        omega (arith, c.loop-i.invariant.1, able.ticks, c.requires.order.entries),
        omega (arith, c.loop-i.invariant.2, able.ticks, c.requires.order.entries),
      );
    }

pub loop-i-preserved : goal.loop-i-preserved
loop-i-preserved c =
    let a = c.args in
    let w = c.loop-i in
    let grown = counts-next a.text a.m.now w.i _ w.self c.step.ensures in (
      traced-next a.text a.m.now a.order.now w.i w.self c.loop-i-test.true c.wide.ensures c.step.ensures ∙ w.invariant.0,
      omega (arith, grown.0, w.invariant.1),
      omega (arith, grown.1, w.invariant.2),
    )

pub returns : goal.returns
returns c =
    let a = c.args in
    let w = c.loop-i in
    sym (traced-all a.text a.m.now a.order.now w.i w.self (omega arith)) ∙ w.invariant.0

-- `generators` meets its contract: what is left of the order, from the state and the marks that the arrays hold, leaves what the whole leaves.
use Prim.Native.Nat.{◌<◌}
use mathlib.Core.Path.{refl, ◌∙◌}
use native.Mathlib.Omega.{arith}
use lib.ListN.{length}
use Rattle.pass_outputs.specs.AsCoded.{untaken}
use Rattle.pass_model.specs.Generators.{State, begun}
use Rattle.pass_generators.specs.AsCoded.{state_of}
use Rattle.pass_generators.proofs.Runs.{steps_on, steps-end, marks-on, marks-end, reads-most, writes-most, still-ready}
use Rattle.pass_generators.proofs.generators.Goals as goal

pub loop-entry-init : goal.loop-entry-init
unfolding begun untaken
loop-entry-init c = let e = c.begin.ensures in record { ready = c.requires.ready; reads = rw e (omega arith); writes = rw e (omega arith); stepped = rw e refl; clipped = rw e refl }

pub step-requires : goal.step-requires
step-requires c =
    let l = c.loop-entry in
    let below : c.wide.result < 256 = rw c.wide.ensures (c.requires.numbers.below l.entry-index (omega arith)) in
    record { reaches = l.invariant.ready.reaches; within_widths = l.invariant.ready.low _ below; g_bound = (below, omega (arith, l.invariant.reads, c.requires.numbers.most), omega (arith, l.invariant.writes, c.requires.numbers.most)) }

pub loop-entry-preserved : goal.loop-entry-preserved
loop-entry-preserved c =
    let l = c.loop-entry in
    let a = c.args in
    let items = a.items.now in
    let s : State = state_of l.m l.places l.taking in
    let more : l.entry-index < length a.order.now = omega arith in
    let below : c.wide.result < 256 = rw c.wide.ensures (c.requires.numbers.below l.entry-index more) in
    let is = c.step.ensures in
    record {
      ready = still-ready a.text items s _ is.writes_after below l.invariant.ready;
      reads = omega (arith, l.invariant.reads, reads-most a.text items s _ is.writes_after);
      writes = omega (arith, l.invariant.writes, writes-most a.text items s _ is.writes_after);
      stepped = steps_on a.text items _ s _ _ more c.wide.ensures is.writes_after ∙ l.invariant.stepped;
      clipped = marks-on a.text items _ s _ _ _ more c.wide.ensures is.writes_after is.clipped_after ∙ l.invariant.clipped;
    }

pub returns : goal.returns
returns c =
    let a = c.args in
    let l = c.loop-entry in
    record { writes_after = steps-end a.text _ a.order.now _ _ l.entry-index (omega arith) l.invariant.stepped; clipped_after = marks-end a.text _ a.order.now _ _ _ _ l.entry-index (omega arith) l.invariant.clipped }

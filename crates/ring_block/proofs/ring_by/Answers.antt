-- `ring_block::ring_by` meets its contract: from each stage the block ends as from its start, and which question refuses the next pass is known.
-- Assumes nothing.
use mathlib.Core.Path.{refl, ◌∙◌}
use native.Mathlib.Omega.{arith}
use Rattle.ring_pass.specs.Benches.{ordering_in}
use Rattle.ring_steps.specs.declared.Output.TheVariants.{Frames}
use Rattle.ring_gathering.proofs.Gatherings.{step-lowers, known-after}
use Rattle.ring_block.specs.AsCoded.{ringing_at}
use Rattle.ring_block.proofs.Going.{going-begins, going-ends, frame-fits, going-goes}
use Rattle.ring_block.proofs.ring_by.Goals as goal

pub loop-here-init : goal.loop-here-init
loop-here-init c = (refl, (refl, (c.refusal-known.ensures, going-begins _ _ _ _ _ _ _ _ c.requires)))

pub step_into-next-requires : goal.step_into-next-requires
step_into-next-requires c = let g = c.loop-here.invariant.1.1.1 in record { passes_nonzero = (c.loop-here-test.true, omega (arith, g.bound)); dacs_in_bounds = frame-fits _ _ g c.loop-here-test.true; number_value = c.loop-here.invariant.1.1.0 }

pub next_refusal-known-requires : goal.next_refusal-known-requires
next_refusal-known-requires c =
    let a = c.args in
    known-after a.bench.text (ordering_in a.bench) Frames (ringing_at c.loop-here.here c.loop-here.m c.loop-here.memory a.bench.commands.now) c.loop-here.here.taken
    c.loop-here-test.true c.loop-here.invariant.1.1.0 c.step_into-next.ensures.commands_after c.step_into-next.ensures.taken_value

pub loop-here-smaller : goal.loop-here-smaller
loop-here-smaller c =
    let a = c.args in
    step-lowers a.bench.text (ordering_in a.bench) Frames (ringing_at c.loop-here.here c.loop-here.m c.loop-here.memory a.bench.commands.now)
    c.loop-here-test.true c.step_into-next.ensures.commands_after

pub loop-here-preserved : goal.loop-here-preserved
loop-here-preserved c = (
  c.step_into-next.auto.m ∙ c.loop-here.invariant.0,
  (
    c.step_into-next.auto.memory ∙ c.loop-here.invariant.1.0,
    (
      c.next_refusal-known.ensures,
      going-goes _ _ c.loop-here.invariant.1.1.1 c.loop-here-test.true _ c.step_into-next.ensures.commands_after c.step_into-next.ensures.taken_value c.step_into-next.ensures.done_value.0 c.step_into-next.ensures.done_value.1 c.step_into-next.ensures.frames_after,
    ),
  ),
)

pub returns : goal.returns
returns c = going-ends _ _ c.loop-here.invariant.1.1.1 c.loop-here-test.false

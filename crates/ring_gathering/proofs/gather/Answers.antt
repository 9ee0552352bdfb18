-- `ring_gathering::gather` meets its contract: from what is gathered so far as much is gathered as from the start, and which question refuses the next pass is known.
-- Assumes nothing.
use mathlib.Core.Path.{refl, ◌∙◌}
use Rattle.ring_pass.specs.Benches.{ordering_in}
use Rattle.ring_steps.specs.AsCoded.{ringing_at}
use Rattle.ring_gathering.proofs.Gatherings.{gathering-begins, gathering-ends, gathering-full, gathering-goes, step-lowers, known-after}
use Rattle.ring_gathering.proofs.gather.Goals as goal

pub loop-here-init : goal.loop-here-init
loop-here-init c = (refl, (refl, (c.refusal-known.ensures, gathering-begins _ _ _ _ _ _)))

pub returns-then-out-here : goal.returns-then-out-here
returns-then-out-here c = let both = gathering-full _ _ c.loop-here.invariant.1.1.1 c.if-out-here.true in record { length_value = both.0; out_after = both.1.0; commands_after = both.1.1.0; taken_value = both.1.1.1 }

pub step_into-next-requires : goal.step_into-next-requires
step_into-next-requires c = record { line_bytes_in_bounds = c.if-out-here.false; passes_nonzero = c.loop-here-test.true; number_value = c.loop-here.invariant.1.1.0 }

pub next_refusal-known-requires : goal.next_refusal-known-requires
next_refusal-known-requires c =
    let a = c.args in
    known-after a.bench.text (ordering_in a.bench) a.output (ringing_at c.loop-here.here c.loop-here.m c.loop-here.memory a.bench.commands.now) c.loop-here.here.taken c.loop-here-test.true c.loop-here.invariant.1.1.0 c.step_into-next.ensures.commands_after c.step_into-next.ensures.taken_value

pub loop-here-smaller : goal.loop-here-smaller
loop-here-smaller c =
    let a = c.args in
    step-lowers a.bench.text (ordering_in a.bench) a.output (ringing_at c.loop-here.here c.loop-here.m c.loop-here.memory a.bench.commands.now) c.loop-here-test.true c.step_into-next.ensures.commands_after

pub loop-here-preserved : goal.loop-here-preserved
loop-here-preserved c = (
  c.step_into-next.auto.m ∙ c.loop-here.invariant.0,
  (
    c.step_into-next.auto.memory ∙ c.loop-here.invariant.1.0,
    (c.next_refusal-known.ensures, gathering-goes _ _ c.loop-here.invariant.1.1.1 c.loop-here-test.true c.if-out-here.false (c.step_into-next.ensures.length_value, (c.step_into-next.ensures.out_after, (c.step_into-next.ensures.commands_after, c.step_into-next.ensures.taken_value)))),
  ),
)

pub returns : goal.returns
returns c = let both = gathering-ends _ _ c.loop-here.invariant.1.1.1 c.loop-here-test.false in record { length_value = both.0; out_after = both.1.0; commands_after = both.1.1.0; taken_value = both.1.1.1 }

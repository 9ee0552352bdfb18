-- `generator::Generator::await_trigger` meets its contract: the oscillator's steps, and the run mode where it is told.
-- Assumes nothing.
use mathlib.Core.Path.{◌∙◌}
use Rattle.generator.specs.AsCoded.{oscillated}
use Rattle.generator.proofs.Turns.{turn-waits, low-is-j}
use Rattle.generator.proofs.Generator.await_trigger.Goals as goal

pub returns-then-below : goal.returns-then-below
unfolding oscillated
returns-then-below c = rw (turn-waits c.args.self c.args.f c.args.below c.requires.self_value.0, c.if-below.true, ← (low-is-j _ _ c.phase.ensures c.low-j.ensures.is)) (c.with_run_mode.ensures ∙ rw c.oscillate-turned.ensures)

pub returns-else-below : goal.returns-else-below
unfolding oscillated
returns-else-below c = rw (turn-waits c.args.self c.args.f c.args.below c.requires.self_value.0, c.if-below.false, ← (low-is-j _ _ c.phase.ensures c.low-j.ensures.is)) c.oscillate-turned.ensures

-- `ring_steps::put_refusal` meets its contract: a line or nothing.
-- Assumes nothing.
use mathlib.Core.Path.{refl}
use Rattle.ring_steps.specs.AsCoded.{given_refused}
use Rattle.ring_steps.proofs.put_refusal.Goals as goal

pub returns-in-Lines : goal.returns-in-Lines
unfolding given_refused
returns-in-Lines c = record { value = rw c.in-Lines.is (rw c.from.ensures at c.refusal_line.ensures.value); line_after = rw c.in-Lines.is (rw c.from.ensures at c.refusal_line.ensures.line_after) }

pub returns-in-Frames : goal.returns-in-Frames
unfolding given_refused
returns-in-Frames c = record { value = rw c.in-Frames.is refl; line_after = rw c.in-Frames.is refl }

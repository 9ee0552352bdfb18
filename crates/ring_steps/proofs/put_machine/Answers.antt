-- `ring_steps::put_machine` meets its contract: the two words are those that a line and a frame ask for.
-- Assumes nothing.
use Rattle.ring_steps.specs.Heard.{line_after, frame_after}
use Rattle.ring_steps.specs.AsCoded.{given_after}
use Rattle.ring_steps.proofs.put_machine.Goals as goal

pub returns-in-Lines : goal.returns-in-Lines
unfolding given_after line_after
returns-in-Lines c = record { value = rw c.in-Lines.is c.pass_line.ensures.value; line_after = rw c.in-Lines.is c.pass_line.ensures.line_after }

pub returns-in-Frames : goal.returns-in-Frames
unfolding given_after frame_after
returns-in-Frames c = record { value = rw c.in-Frames.is c.put_frame.ensures.value; line_after = rw c.in-Frames.is c.put_frame.ensures.out_after }

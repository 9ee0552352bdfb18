-- `ring_block::step_into` meets its contract: a step, and its frame where it is not refused.
-- Assumes nothing.
use Rattle.ring_pass.specs.Benches.{ordering_in}
use Rattle.ring_block.specs.AsCoded.{ringing_at}
use Rattle.ring_block.proofs.Going.{errs, errs-not, turn-sounds, stage-refused, stage-goes}
use Rattle.ring_block.proofs.step_into.Goals as goal

pub returns-then-is_err : goal.returns-then-is_err
returns-then-is_err c =
    let a = c.args in
    let stays = stage-refused a.at.done a.at.place _ a.dacs.now a.frames.now _ (errs _ c.is_err.ensures.value c.if-is_err.true) in
    record { commands_after = c.step-next.ensures.commands_after; taken_value = c.step-next.ensures.taken_value; done_value = stays.0; frames_after = stays.1 }

pub put_frame-place-requires : goal.put_frame-place-requires
put_frame-place-requires c =
    let a = c.args in
    record { dacs_in_bounds = c.requires.dacs_in_bounds; sounding = turn-sounds a.bench.text (ordering_in a.bench) (ringing_at a.at a.m.now a.memory.now a.bench.commands.now) c.requires.passes_nonzero.0 c.step-next.ensures.commands_after (errs-not _ c.is_err.ensures.value c.if-is_err.false) }

pub returns : goal.returns
returns c =
    let a = c.args in
    let goes = stage-goes a.at.done a.at.place _ a.dacs.now a.frames.now _ (errs-not _ c.is_err.ensures.value c.if-is_err.false) (c.put_frame-place.ensures.value, c.put_frame-place.ensures.frames_after) in
    record { commands_after = c.step-next.ensures.commands_after; taken_value = c.step-next.ensures.taken_value; done_value = goes.0; frames_after = goes.1 }

-- `ring_gathering::step_into` meets its contract: the step's line is the first part of its own buffer.
-- Assumes nothing.
use mathlib.Core.Path.{refl}
use Rattle.ring_pass.specs.Benches.{ordering_in}
use Rattle.ring_steps.specs.AsCoded.{ringing_at}
use Rattle.ring_gathering.proofs.Gatherings.{part-within, part-length, part-fits, part-put}
use Rattle.ring_gathering.proofs.step_into.Goals as goal

pub slice_bounds-line-end : goal.slice_bounds-line-end
slice_bounds-line-end c =
    let a = c.args in
    part-within a.bench.text (ordering_in a.bench) a.output (ringing_at a.at a.m.now a.memory.now a.bench.commands.now) _ refl c.step-next.ensures.length_value c.step-next.ensures.line_after

pub slice_bounds-put-end : goal.slice_bounds-put-end
slice_bounds-put-end c =
    let a = c.args in
    part-length a.bench.text (ordering_in a.bench) a.output (ringing_at a.at a.m.now a.memory.now a.bench.commands.now) _ refl c.step-next.ensures.length_value c.step-next.ensures.line_after

pub put-length-requires : goal.put-length-requires
put-length-requires c =
    let a = c.args in
    part-fits a.bench.text (ordering_in a.bench) a.output (ringing_at a.at a.m.now a.memory.now a.bench.commands.now) _ refl c.step-next.ensures.length_value c.step-next.ensures.line_after a.at.length _ c.requires.line_bytes_in_bounds

pub returns : goal.returns
returns c =
    let a = c.args in let both = part-put a.bench.text (ordering_in a.bench) a.output (ringing_at a.at a.m.now a.memory.now a.bench.commands.now) _ refl c.step-next.ensures.length_value c.step-next.ensures.line_after a.at.length _ a.at.taken (c.put-length.ensures.value, c.put-length.ensures.out_after) (c.step-next.ensures.commands_after, c.step-next.ensures.taken_value) in record { length_value = both.0; out_after = both.1.0; commands_after = both.1.1.0; taken_value = both.1.1.1 }

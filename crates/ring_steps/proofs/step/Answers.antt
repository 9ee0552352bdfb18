-- `ring_steps::step` meets its contract: the step ends with a refused pass, with a refused update, or with its line.
-- Assumes nothing.
use mathlib.Core.Path.{refl, sym, ◌∙◌}
use lib.ListN.{drop}
use Rattle.base_questions.proofs.Refusals.{numbered}
use Rattle.ring_pass.specs.Benches.{ordering_in}
use Rattle.ring_steps.specs.AsCoded.{ringing_at}
use Rattle.ring_steps.proofs.Turns.{lined, step-refused, step-update-refused, step-goes}
use Rattle.ring_steps.proofs.Keeping.{refused-stays, last-passes}
use Rattle.ring_steps.proofs.step.Goals as goal

pub returns-in-Err : goal.returns-in-Err
returns-in-Err c =
    let a = c.args in
    let r = ringing_at a.at a.m.now a.memory.now a.bench.commands.now in
    let n = rw c.in-Err.is at c.requires.number_value in
    let stays = refused-stays a.bench.text (ordering_in a.bench) a.m.now a.memory.now (λ e. numbered _ (n ∙ e)) in
    let both = step-refused a.bench.text (ordering_in a.bench) a.output r a.line.now a.at.taken c.requires.passes_nonzero n stays.0 stays.1 (numbered _) (refl, c.ended.ensures.line_after) in
    record { length_value = rw c.ended.ensures.value both.0; line_after = both.1.0; commands_after = rw c.ended.ensures.value both.1.1.0; taken_value = rw c.ended.ensures.value both.1.1.1 }

pub ring_update-update-requires : goal.ring_update-update-requires
ring_update-update-requires c =
    let a = c.args in
    let z = sym (rw c.in_default.is at c.requires.number_value) in
    rw c.run.ensures.m_after (last-passes a.bench.text (ordering_in a.bench) a.m.now a.memory.now z)

pub returns-in-Err-end : goal.returns-in-Err-end
returns-in-Err-end c =
    let a = c.args in
    let r = ringing_at a.at a.m.now a.memory.now a.bench.commands.now in
    let n = rw c.in_default.is at c.requires.number_value in
    let u = rw c.in-Err-end.is at c.ring_update-update.ensures.commands_after in
    let both = step-update-refused a.bench.text (ordering_in a.bench) a.output r a.line.now a.at.taken c.requires.passes_nonzero n c.run.ensures.m_after c.run.ensures.memory_after refl u c.ring_update-update.ensures.value (numbered _) (refl, c.ended-in-Err-end.ensures.line_after) in
    record { length_value = rw c.ended-in-Err-end.ensures.value both.0; line_after = both.1.0; commands_after = rw c.ended-in-Err-end.ensures.value both.1.1.0; taken_value = rw c.ended-in-Err-end.ensures.value both.1.1.1 }

pub put_machine-length-requires : goal.put_machine-length-requires
put_machine-length-requires c =
    let a = c.args in
    let z = sym (rw c.in_default.is at c.requires.number_value) in
    lined a.bench.text _ (drop a.at.taken a.bench.commands.now) (rw c.run.ensures.m_after (last-passes a.bench.text (ordering_in a.bench) a.m.now a.memory.now z)) c.ring_update-update.ensures.commands_after

pub returns : goal.returns
returns c =
    let a = c.args in
    let r = ringing_at a.at a.m.now a.memory.now a.bench.commands.now in
    let n = rw c.in_default.is at c.requires.number_value in
    let u = rw c.in_default-end.is at c.ring_update-update.ensures.commands_after in
    let both = step-goes a.bench.text (ordering_in a.bench) a.output r a.line.now a.at.taken c.requires.passes_nonzero n c.run.ensures.m_after c.run.ensures.memory_after refl u c.ring_update-update.ensures.value refl (c.put_machine-length.ensures.value, c.put_machine-length.ensures.line_after) in
    record { length_value = both.0; line_after = both.1.0; commands_after = both.1.1.0; taken_value = both.1.1.1 }

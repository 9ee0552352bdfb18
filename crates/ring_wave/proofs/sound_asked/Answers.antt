-- `ring_wave::sound_asked` meets its contract: questions 1 and 2 first, then the sound.
-- Assumes nothing.
use mathlib.Core.Path.{sym}
use Rattle.std.proofs.lemmas.Result.{err_from_is_err_and}
use Rattle.base_questions.proofs.Refusals.{numbered}
use Rattle.ring_pass.specs.Benches.{ordering_in}
use Rattle.ring_wave.proofs.WholeFile.{writes-refusal, writes-sound}
use Rattle.ring_wave.proofs.sound_asked.Goals as goal

pub returns-in_err-refusal : goal.returns-in_err-refusal
returns-in_err-refusal c =
    let a = c.args in
    let p = err_from_is_err_and c.from_residual.result c.from_residual.ensures.1 in
    let both = writes-refusal a.bench.text (ordering_in a.bench) a.passes a.m.now a.memory.now a.bench.commands.now a.out.now c.in_err-refusal.ensures (numbered c.in_err-refusal.field-0.0) in
    record { length_value = rw p.1 both.0; out_after = rw p.1 both.1.0; line_value = rw (p.1, p.2) both.1.1 }

pub returns : goal.returns
returns c =
    let a = c.args in
    let both = writes-sound a.bench.text (ordering_in a.bench) a.passes a.m.now a.memory.now a.bench.commands.now _ (sym c.in_ok-refusal.ensures) (c.sound.ensures.number_value, (c.sound.ensures.length_value, c.sound.ensures.out_after)) in
    record { length_value = both.0; out_after = both.1.0; line_value = both.1.1 }

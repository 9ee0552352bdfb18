-- `ring_wave::sound` meets its contract: the header is put by the number of passes, the frames behind it, and a refusal makes no file.
-- Assumes nothing.
use mathlib.Core.Path.{◌≡◌, refl, ◌∙◌}
use mathlib.Core.List.{[]}
use Prim.Native.Nat.{◌-◌}
use native.Mathlib.Omega.{arith}
use lib.ListN.{length, get_or}
use Rattle.layout.specs.Layout.{n_at}
use Rattle.machine.proofs.ValidMachine.{valid-controls}
use Rattle.pass_model.proofs.Asked.{is-valid, is_whole}
use Rattle.file_wave.specs.WaveFormat.{header_bytes}
use Rattle.base_questions.proofs.Refusals.{numbered}
use Rattle.ring_pass.specs.Benches.{ordering_in}
use Rattle.ring_steps.specs.AsCoded.{Ringing}
use Rattle.ring_steps.specs.declared.Output.TheVariants.{Frames}
use Rattle.ring_gathering.proofs.Gatherings.{gathered-length}
use Rattle.ring_wave.specs.Wave.{wave_room}
use Rattle.ring_wave.proofs.Sounding.{rate-below, headed-long, made-refused, made-whole}
use borrow.Author.Rules.{rules}
use Rattle.ring_wave.proofs.sound.Goals as goal

pub bounds-m-4114 : goal.bounds-m-4114
bounds-m-4114 c = omega (arith, is_whole c.args.bench.text c.args.m.now [] c.requires.m_value)

pub rate-rate-requires : goal.rate-rate-requires
rate-rate-requires c =
    let s = valid-controls c.args.bench.text c.args.m.now (is-valid c.args.bench.text c.args.m.now [] c.requires.m_value) in
    (omega (arith, s.n_low), s.n_high)

pub put_header-requires : goal.put_header-requires
put_header-requires c =
    let a = c.args in
    let s = valid-controls a.bench.text a.m.now (is-valid a.bench.text a.m.now [] c.requires.m_value) in
    (search rules, (rw c.rate-rate.ensures (rate-below (get_or a.m.now n_at 0) (omega (arith, s.n_low))), omega (arith, c.requires.passes_le_most_passes)))

pub returns-in-Err : goal.returns-in-Err
returns-in-Err c =
    let a = c.args in
    let long : length a.out.now ≡ wave_room = search rules in
    let same = headed-long a.out.now _ _ c.put_header.ensures ∙ long in let both = made-refused a.bench.text (ordering_in a.bench) (get_or a.m.now n_at 0) a.passes a.m.now a.memory.now a.bench.commands.now c.requires.passes_le_most_passes _ (omega (arith, same)) [] (rw c.in-Err.is at c.gather_frames-last.ensures.refused_value) (numbered _) in record { number_value = both.0; length_value = both.1.0; out_after = both.1.1 }

pub overflow_add-result : goal.overflow_add-result
overflow_add-result c =
    let a = c.args in
    let long : length a.out.now ≡ wave_room = search rules in
    let same = headed-long a.out.now _ _ c.put_header.ensures ∙ long in
    let r : Ringing = record { passes = a.passes; machine = a.m.now; memory = a.memory.now; commands = a.bench.commands.now; number = 0 } in
    record { fits = omega (arith, c.gather_frames-last.ensures.length_value, same, gathered-length a.bench.text (ordering_in a.bench) Frames (length c.put_header.new.out - header_bytes) r) }

pub returns-in-Ok : goal.returns-in-Ok
returns-in-Ok c =
    let a = c.args in
    let long : length a.out.now ≡ wave_room = search rules in
    let same = headed-long a.out.now _ _ c.put_header.ensures ∙ long in let both = made-whole a.bench.text (ordering_in a.bench) (get_or a.m.now n_at 0) a.passes a.m.now a.memory.now a.bench.commands.now c.requires.passes_le_most_passes _ (omega (arith, same)) a.out.now long (rw c.rate-rate.ensures at c.put_header.ensures) c.gather_frames-last.ensures.length_value c.gather_frames-last.ensures.out_after (rw c.in-Ok.is at c.gather_frames-last.ensures.refused_value) refl in record { number_value = both.0; length_value = both.1.0; out_after = both.1.1 }

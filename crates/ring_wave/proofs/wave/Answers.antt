-- `ring_wave::wave` meets its contract: what is refused before the ringing is a line, else the ringing sounds or is refused.
-- Assumes nothing.
use mathlib.Core.Path.{refl, sym, ap, ◌∙◌}
use Prim.Native.Nat.{◌≤◌}
use native.Mathlib.Omega.{arith}
use lib.ListN.{length, replicate}
use lib.Seq.{length-take-le}
use Rattle.std.proofs.lemmas.Result.{err_from_is_err_and}
use Rattle.base_lists.specs.Lists.{zeros}
use Rattle.base_questions.proofs.Refusals.{numbered}
use Rattle.base_questions.specs.Refusals.{number_of}
use Rattle.layout.specs.Layout.{machine_length}
use Rattle.file_bench.specs.BenchFile.{command_places}
use Rattle.ring_pass.specs.BenchPass.{ordering_of}
use Rattle.ring_begin.proofs.Refused.{line-none}
use Rattle.ring_wave.proofs.WholeFile.{first-line, few-begun, told-refused, told-begun}
use Rattle.ring_wave.proofs.wave.Goals as goal

pub returns-in_err-start : goal.returns-in_err-start
returns-in_err-start c =
    let a = c.args in
    let p = err_from_is_err_and c.from_residual.result c.from_residual.ensures.1 in
    let told = told-refused a.by a.listing.now a.file.now a.out.now c.in_err-start.ensures.refused_value c.in_err-start.ensures.line_value in
    record { length_value = rw p.1 told.0; out_after = rw p.1 told.1.0; line_value = rw (p.1, p.2) told.1.1 }

pub slice_bounds-bench-end : goal.slice_bounds-bench-end
slice_bounds-bench-end c =
    let q = c.in_ok-start.ensures in
    let within : c.in_ok-start.start.count ≤ length c.begin.new.room = omega (arith, q.begins.commands, ap length q.room_after) in
    sym (length-take-le c.in_ok-start.start.count c.begin.new.room within)

pub sound_asked-requires : goal.sound_asked-requires
sound_asked-requires c =
    let few = few-begun c.args.file.now (replicate machine_length 0) (zeros command_places) c.in_ok-start.ensures.begins.passes in
    record { passes_le_most_passes = few; machine_length_in_bounds = omega (arith, c.begin.array_long) }

pub returns-in-Ok : goal.returns-in-Ok
returns-in-Ok c =
    let a = c.args in
    let q = c.in_ok-start.ensures in
    let w = c.in-Ok.ensures in
    let told = told-begun a.by a.listing.now a.file.now (replicate machine_length 0) c.in_ok-start.start c.sound_asked.new.out 0 q.line_value q.begins q.machine_after q.memory_after q.room_after (ap ordering_of c.order.ensures) (w.length_value, (w.out_after, w.line_value)) in
    record { length_value = told.0; out_after = told.1.0; line_value = sym (line-none 0 0 refl refl) ∙ told.1.1 }

pub returns-in-Err : goal.returns-in-Err
returns-in-Err c =
    let a = c.args in
    let q = c.in_ok-start.ensures in
    let w = c.in-Err.ensures in
    let number = number_of c.in-Err.refusal in
    let told = told-begun a.by a.listing.now a.file.now (replicate machine_length 0) c.in_ok-start.start c.sound_asked.new.out number q.line_value q.begins q.machine_after q.memory_after q.room_after (ap ordering_of c.order.ensures) (w.length_value, (w.out_after, w.line_value)) in
    record { length_value = told.0; out_after = told.1.0; line_value = c.refused.ensures ∙ sym (first-line number (numbered c.in-Err.refusal)) ∙ told.1.1 }

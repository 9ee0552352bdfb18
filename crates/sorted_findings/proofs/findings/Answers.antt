-- `sorted_findings::findings` meets its contract: a refused file, the order by pitch, or an order file.
-- Assumes nothing.
use mathlib.Core.Path.{refl, ◌∙◌}
use lib.ListN.{replicate}
use Rattle.layout.specs.Layout.{machine_length}
use Rattle.base_questions.proofs.Refusals.{numbered}
use Rattle.file_bench.specs.BenchFile.{command_places}
use Rattle.sorted_findings.proofs.WholeFile.{bench-refused, bench-found, pitch-lines}
use Rattle.sorted_findings.proofs.findings.Goals as goal

pub returns-in-Err : goal.returns-in-Err
returns-in-Err c =
    let a = c.args in
    let refused = bench-refused a.file.now (replicate machine_length 0) (replicate command_places 0) c.in-Err.ensures (numbered _) a.by a.order.now in
    record { value = rw refused c.put_refusal.ensures.value; out_after = rw refused c.put_refusal.ensures.out_after }

pub returns-in-Number : goal.returns-in-Number
returns-in-Number c =
    let a = c.args in
    let found = bench-found a.file.now (replicate machine_length 0) (replicate command_places 0) c.in-Ok.ensures refl a.by a.order.now in
    let lines = found ∙ pitch-lines c.in-Ok.contents.text _ a.order.now c.in-Number.is in
    record { value = rw lines c.by_pitch.ensures.value; out_after = rw lines c.by_pitch.ensures.out_after }

pub returns-in-File : goal.returns-in-File
returns-in-File c =
    let a = c.args in
    let found = bench-found a.file.now (replicate machine_length 0) (replicate command_places 0) c.in-Ok.ensures refl a.by a.order.now in
    record { value = rw (found, c.in-File.is) c.by_file.ensures.value; out_after = rw (found, c.in-File.is) c.by_file.ensures.out_after }

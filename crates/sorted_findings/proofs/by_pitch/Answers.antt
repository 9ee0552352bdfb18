-- `sorted_findings::by_pitch` meets its contract: question 2 asks the T that sorting needs.
-- Assumes nothing.
use mathlib.Core.Path.{sym}
use Rattle.base_questions.proofs.Refusals.{numbered}
use Rattle.pass_pitch.specs.Pitch.{by_pitch}
use Rattle.compare.proofs.Asked.{is-traceable}
use Rattle.sorted_findings.proofs.Comparing.{first-asked}
use Rattle.sorted_findings.proofs.WholeFile.{pitch-part, pitch-within}
use Rattle.sorted_findings.proofs.by_pitch.Goals as goal

pub returns-in-Err : goal.returns-in-Err
returns-in-Err c =
    let a = c.args in
    let refused = first-asked a.text a.m.now (by_pitch a.m.now) c.in-Err.ensures (numbered _) in
    record { value = rw refused c.put_refusal.ensures.value; out_after = rw refused c.put_refusal.ensures.out_after }

pub by_pitch-requires : goal.by_pitch-requires
by_pitch-requires c =
    let a = c.args in
    let ready = is-traceable a.text a.m.now (sym c.in-Ok.ensures) in
    (ready.reaches, ready.ticks)

pub ticks-t-requires : goal.ticks-t-requires
ticks-t-requires c =
    let a = c.args in
    (is-traceable a.text a.m.now (sym c.in-Ok.ensures)).reaches

pub slice_bounds-compared-end : goal.slice_bounds-compared-end
slice_bounds-compared-end c =
    let a = c.args in
    pitch-within a.m.now (is-traceable a.text a.m.now (sym c.in-Ok.ensures)).ticks c.by_pitch.ensures c.ticks-t.ensures

pub returns-in-Ok : goal.returns-in-Ok
returns-in-Ok c =
    let a = c.args in
    let part = pitch-part a.m.now (is-traceable a.text a.m.now (sym c.in-Ok.ensures)).ticks c.by_pitch.ensures c.ticks-t.ensures in
    record { value = rw part at c.compared.ensures.value; out_after = rw part at c.compared.ensures.out_after }

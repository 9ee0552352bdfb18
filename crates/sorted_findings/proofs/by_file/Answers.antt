-- `sorted_findings::by_file` meets its contract: a file that is no order file, a machine that is refused, or two orders.
-- Assumes nothing.
use mathlib.Core.Path.{refl, ◌∙◌}
use Rattle.base_questions.proofs.Refusals.{numbered}
use Rattle.sorted_findings.proofs.Comparing.{first-asked}
use Rattle.sorted_findings.proofs.WholeFile.{file-refused, file-within, file-compared}
use Rattle.sorted_findings.proofs.by_file.Goals as goal

pub returns-in-Err : goal.returns-in-Err
returns-in-Err c =
    let a = c.args in
    let refused = file-refused a.text a.m.now a.file.now c.in-Err.ensures (numbered _) in
    record { value = rw refused c.put_refusal.ensures.value; out_after = rw refused c.put_refusal.ensures.out_after }

pub returns-in-Err-refusal : goal.returns-in-Err-refusal
returns-in-Err-refusal c =
    let a = c.args in
    let order = file-compared a.text a.m.now a.file.now c.in-Ok.ensures refl in
    let refused = order ∙ first-asked a.text a.m.now _ c.in-Err-refusal.ensures (numbered _) in
    record { value = rw refused c.put_refusal-in-Err-refusal.ensures.value; out_after = rw refused c.put_refusal-in-Err-refusal.ensures.out_after }

pub slice_bounds-compared-end : goal.slice_bounds-compared-end
slice_bounds-compared-end c =
    let a = c.args in
    file-within a.text a.m.now a.file.now c.in-Ok.ensures

pub returns : goal.returns
returns c =
    let a = c.args in
    let compared = file-compared a.text a.m.now a.file.now c.in-Ok.ensures refl in
    record { value = rw compared c.compared.ensures.value; out_after = rw compared c.compared.ensures.out_after }

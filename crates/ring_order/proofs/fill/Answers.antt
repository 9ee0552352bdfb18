-- `ring_order::fill` meets its contract: each of the three ways.
-- Assumes nothing.
use mathlib.Core.Path.{refl, ◌∙◌}
use Rattle.base_questions.proofs.Refusals.{handed_on}
use Rattle.ring_order.proofs.Filling.{same-order, file-refusal, file-count, file-order}
use Rattle.ring_order.proofs.fill.Goals as goal

pub returns-in-Number : goal.returns-in-Number
returns-in-Number c = record { number_value = rw c.in-Number.is refl; entries_value = rw c.in-Number.is (tt, λ few. refl) }

pub returns-in-Pitch : goal.returns-in-Pitch
returns-in-Pitch c =
    let q = c.fill_by_pitch.ensures in
    record { number_value = rw c.in-Pitch.is refl; entries_value = rw c.in-Pitch.is (q.count_bound, λ few. same-order (q.entries_value few)) }

pub returns-in_err-entries-in-File-clause-number_value : goal.returns-in_err-entries-in-File-clause-number_value
returns-in_err-entries-in-File-clause-number_value c =
    rw c.in-File.is (handed_on _ _ c.from_residual.ensures.1 ∙ file-refusal c.args.file.now c.in_err-entries-in-File.ensures)

pub returns-in_ok-entries-in-File : goal.returns-in_ok-entries-in-File
returns-in_ok-entries-in-File c =
    let file = c.args.file.now in
    let read = c.in_ok-entries-in-File.ensures in
    record { number_value = rw c.in-File.is (file-refusal file read); entries_value = rw c.in-File.is (file-count file read, λ few. same-order (file-order file read refl)) }

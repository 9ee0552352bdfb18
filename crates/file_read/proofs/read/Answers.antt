-- `file_read::read` meets its contract: the file's questions, then those of the runs; then the file is loaded.
-- Assumes nothing.
use mathlib.Core.Path.{refl, sym, ◌∙◌}
use Rattle.base_questions.proofs.Refusals.{numbered}
use Rattle.file_bench.proofs.WholeFile.{said-number}
use Rattle.file_read.proofs.Answers as answers
use Rattle.file_read.proofs.read.Goals as goal

pub returns-in_err-contents : goal.returns-in_err-contents
returns-in_err-contents c =
    let a = c.args in
    answers.refused_on a.m.now a.places.now _ _ c.from_residual.ensures.1
    ∙ answers.refused-file a.file.now a.m.now a.places.now c.in_err-contents.ensures (numbered _)

pub returns-then-words-ne-MACHINE_LENGTH : goal.returns-then-words-ne-MACHINE_LENGTH
returns-then-words-ne-MACHINE_LENGTH c =
    let a = c.args in
    answers.other_length a.file.now a.m.now a.places.now c.in_ok-contents.ensures refl c.if-words-ne-MACHINE_LENGTH.true

pub returns-then-places-count : goal.returns-then-places-count
returns-then-places-count c =
    let a = c.args in
    answers.few-places a.file.now a.m.now a.places.now c.in_ok-contents.ensures refl c.if-words-ne-MACHINE_LENGTH.false c.if-places-count.true

pub load_file-requires : goal.load_file-requires
load_file-requires c = record { file_value = sym (said-number c.args.file.now c.in_ok-contents.ensures); m_len = c.if-words-ne-MACHINE_LENGTH.false }

pub returns : goal.returns
returns c =
    let a = c.args in
    answers.loaded a.file.now a.m.now a.places.now c.in_ok-contents.ensures refl c.if-words-ne-MACHINE_LENGTH.false c.if-places-count.false
    c.load_file.ensures.m_after c.load_file.ensures.room_after c.text_number.ensures

-- `file_lines::read_line` meets its contract: the starts are tried one after another.
-- Assumes nothing.
use mathlib.Core.Path.{sym, ◌∙◌}
use Rattle.file_lines.specs.Lines.{passes_start, word_start, command_start, text_start}
use Rattle.file_lines.proofs.LineKinds as kinds
use Rattle.file_lines.proofs.read_line.Goals as goal

pub returns-in-Some : goal.returns-in-Some
returns-in-Some c =
    let q = c.in-Some.ensures.cases in
    kinds.line-passes _ (sym (kinds.stripped _ passes_start) ∙ q.0) q.1 c.passes.ensures

pub returns-in-Some-strip_prefix : goal.returns-in-Some-strip_prefix
returns-in-Some-strip_prefix c =
    let q = c.in-Some-strip_prefix.ensures.cases in
    kinds.line_word
    _
    (sym (kinds.stripped _ passes_start) ∙ c.in_default.ensures.cases)
    (sym (kinds.stripped _ word_start) ∙ q.0)
    q.1
    c.word.ensures

pub returns-in-Some-strip_prefix-2 : goal.returns-in-Some-strip_prefix-2
returns-in-Some-strip_prefix-2 c =
    let q = c.in-Some-strip_prefix-2.ensures.cases in
    kinds.line-command
    _
    (sym (kinds.stripped _ passes_start) ∙ c.in_default.ensures.cases)
    (sym (kinds.stripped _ word_start) ∙ c.in_default-strip_prefix.ensures.cases)
    (sym (kinds.stripped _ command_start) ∙ q.0)
    q.1
    c.command.ensures

pub returns-in-Some-strip_prefix-3 : goal.returns-in-Some-strip_prefix-3
returns-in-Some-strip_prefix-3 c =
    let q = c.in-Some-strip_prefix-3.ensures.cases in
    kinds.line-titled
    _
    (sym (kinds.stripped _ passes_start) ∙ c.in_default.ensures.cases)
    (sym (kinds.stripped _ word_start) ∙ c.in_default-strip_prefix.ensures.cases)
    (sym (kinds.stripped _ command_start) ∙ c.in_default-strip_prefix-2.ensures.cases)
    (sym (kinds.stripped _ text_start) ∙ q.0)
    q.1
    c.titled.ensures

pub returns : goal.returns
returns c =
    kinds.line_other
    _
    (sym (kinds.stripped _ passes_start) ∙ c.in_default.ensures.cases)
    (sym (kinds.stripped _ word_start) ∙ c.in_default-strip_prefix.ensures.cases)
    (sym (kinds.stripped _ command_start) ∙ c.in_default-strip_prefix-2.ensures.cases)
    (sym (kinds.stripped _ text_start) ∙ c.in_default-strip_prefix-3.ensures.cases)

-- Which lines may follow one another in a bench file (document 01, "Bench file"; document 02, Q-10).
-- Assumes nothing.
use Rattle.std.specs.Prelude.{Bool, true, false, Option, Some, None}
use Rattle.layout_texts.specs.declared.Text.{Text}
use Rattle.layout_texts.specs.declared.Text.TheVariants.{Of1978, Old}
use Rattle.file_lines.specs.declared.Line.{Line}
use Rattle.file_lines.specs.declared.Line.TheVariants.{Titled, Passes, Word, Command, Other}
use Rattle.file_phases.specs.declared.Phase.{Phase}
use Rattle.file_phases.specs.declared.Phase.TheVariants.{Start, Headed, Words, Commands, Unfit}

-- The phase after a `text=` line: it may only be the very first.
abbrev pub after_title : Phase → Phase
after_title Start = Headed
after_title Headed = Unfit
after_title Words = Unfit
after_title Commands = Unfit
after_title Unfit = Unfit

-- After a `passes=` line: the first, but for `text=`.
abbrev pub after_passes : Phase → Phase
after_passes Start = Words
after_passes Headed = Words
after_passes Words = Unfit
after_passes Commands = Unfit
after_passes Unfit = Unfit

-- After a `word=` line: behind `passes=` and before all `command=` lines.
abbrev pub after_word : Phase → Phase
after_word Start = Unfit
after_word Headed = Unfit
after_word Words = Words
after_word Commands = Unfit
after_word Unfit = Unfit

-- After a `command=` line: behind `passes=`, and not in a file of the older text.
abbrev pub first_command : Option Text → Phase
first_command (Some Of1978) = Commands
first_command (Some Old) = Unfit
first_command None = Commands

abbrev pub after_command : Option Text → Phase → Phase
after_command title Start = Unfit
after_command title Headed = Unfit
after_command title Words = first_command title
after_command title Commands = Commands
after_command title Unfit = Unfit

-- The phase after a line, in a file of a title; a line of another kind makes it no bench file.
abbrev pub phase_after : Option Text → Phase → Line → Phase
phase_after title phase (Titled t) = after_title phase
phase_after title phase (Passes n) = after_passes phase
phase_after title phase (Word place value) = after_word phase
phase_after title phase (Command c) = after_command title phase
phase_after title phase Other = Unfit

-- Whether the lines so far are those of a bench file.
abbrev pub is_fit : Phase → Bool
is_fit Start = false
is_fit Headed = false
is_fit Words = true
is_fit Commands = true
is_fit Unfit = false

-- The bench file (document 01, "Bench file"; document 02, Q-10): what it says, which text it follows, and whether a file is one.
-- Assumes nothing.
use Rattle.std.specs.Prelude.{ℕ, Bool, true, false, cond, ◌&&◌, Option, Some, None, Result, List, [], ◌∷◌, ◌++◌, eqb, length, set}
use Rattle.std.proofs.lemmas.List.Edits.{sets}
use Rattle.layout.specs.Machine.{Machine, Commands, with_update_ticks}
use Rattle.layout_texts.specs.declared.Text.{Text}
use Rattle.layout_texts.specs.declared.Text.TheVariants.{Of1978}
use Rattle.base_questions.specs.Questions.{Question, asked}
use Rattle.machine.specs.Questions.{fresh_machine}
use Rattle.file_lines.specs.Lines.{line_of, lines_of, ended}
use Rattle.base_questions.specs.declared.Refusal.{Refusal}
use Rattle.base_questions.specs.Refusals.{refused, answer_or}
use Rattle.file_bench.specs.declared.Contents.{Contents}
use Rattle.file_lines.specs.declared.Line.{Line}
use Rattle.file_lines.specs.declared.Line.TheVariants.{Titled, Passes, Word, Command, Other}
use Rattle.file_phases.specs.Phases.{phase_after, is_fit}
use Rattle.file_phases.specs.declared.Phase.{Phase}
use Rattle.file_phases.specs.declared.Phase.TheVariants.{Start}

-- The title with a line more.
abbrev pub with_title : Option Text → Line → Option Text
with_title title (Titled t) = t
with_title title (Passes n) = title
with_title title (Word place value) = title
with_title title (Command c) = title
with_title title Other = title

-- The passes with a line more.
abbrev pub with_passes : ℕ → Line → ℕ
with_passes passes (Titled t) = passes
with_passes passes (Passes n) = n
with_passes passes (Word place value) = passes
with_passes passes (Command c) = passes
with_passes passes Other = passes

-- A machine with the word that a line sets, if any.
abbrev pub with_word : Machine → Line → Machine
with_word m (Titled t) = m
with_word m (Passes n) = m
with_word m (Word place value) = set m place value
with_word m (Command c) = m
with_word m Other = m

-- The command of a line, if any.
abbrev pub commands_of : Line → Commands
commands_of (Titled t) = []
commands_of (Passes n) = []
commands_of (Word place value) = []
commands_of (Command c) = c ∷ []
commands_of Other = []

-- A file under way: its title, the lines that may follow, the passes, the machine and the commands so far.
pub record Reading : Type 0 where
  pub title : Option Text
  pub phase : Phase
  pub passes : ℕ
  pub machine : Machine
  pub commands : Commands

-- It begins with a fresh machine, and without a title it follows the 1978 text.
abbrev pub unread : Reading
unread = record { title = Some Of1978; phase = Start; passes = 0; machine = fresh_machine; commands = [] }

-- With a line more: of two words for one place the later holds, commands follow one another.
unfoldable pub with_line : Reading → Line → Reading
with_line r line =
    record {
      title = with_title r.title line;
      phase = phase_after r.title r.phase line;
      passes = with_passes r.passes line;
      machine = with_word r.machine line;
      commands = r.commands ++ commands_of line;
    }

-- With lines more.
unfoldable pub with_lines : Reading → List (List ℕ) → Reading
with_lines r [] = r
with_lines r (l ∷ ls) = with_lines (with_line r (line_of l)) ls

-- After a file's words the update ticks are worked out again, whatever its T and N.
abbrev pub with_ticks : Reading → Reading
with_ticks r = record { title = r.title; phase = r.phase; passes = r.passes; machine = with_update_ticks r.machine; commands = r.commands }

-- What a file says.
unfoldable pub file_of : List ℕ → Reading
file_of file = with_ticks (with_lines unread (lines_of file))

-- Whether a file is a bench file: at most 65,536 bytes, every line ends in LF, and the lines are those of one.
unfoldable pub is_bench_file : List ℕ → Bool
is_bench_file file = ended file && is_fit (file_of file).phase

-- Whether a title names a text whose machines are rung, and which.
abbrev pub is_known : Option Text → Bool
is_known (Some text) = true
is_known None = false

abbrev pub text_of : Option Text → Text
text_of (Some text) = text
text_of None = Of1978

-- The questions of a file: 9, is it a bench file; then 13, is its text known.
abbrev pub question9 : List ℕ → Question
question9 file = record { number = 9; yes = is_bench_file file }

abbrev pub question13 : List ℕ → Question
question13 file = record { number = 13; yes = is_known (file_of file).title }

unfoldable pub file_refusal : List ℕ → ℕ
file_refusal file = asked (question9 file ∷ question13 file ∷ [])

-- The room for a file's commands: more than 65,536 bytes can have.
abbrev pub command_places : ℕ
command_places = 4096

-- What reading a file answers and leaves: its refusal or 0, its text, the passes, how many commands there are, the machine and the room for commands.
pub record BenchAnswer : Type 0 where
  pub number : ℕ
  pub text : Text
  pub passes : ℕ
  pub count : ℕ
  pub machine : Machine
  pub room : Commands

-- What the call answers and leaves, told so.
abbrev pub nothing_said : Contents
nothing_said = record { text = Of1978; passes = 0; count = 0 }

abbrev pub bench_answer : Result Contents Refusal → Machine → Commands → BenchAnswer
bench_answer r m room =
    let contents = answer_or nothing_said r in
    record { number = refused r; text = contents.text; passes = contents.passes; count = contents.count; machine = m; room = room }

-- A refused file leaves the machine and the room as they are.
unfoldable pub read_of : List ℕ → Machine → Commands → BenchAnswer
read_of file m room =
    let reading = file_of file in
    let number = file_refusal file in
    cond (eqb number 0)
    (record {
      number = 0;
      text = text_of reading.title;
      passes = reading.passes;
      count = length reading.commands;
      machine = reading.machine;
      room = sets room 0 reading.commands;
    })
    (record { number = number; text = Of1978; passes = 0; count = 0; machine = m; room = room })

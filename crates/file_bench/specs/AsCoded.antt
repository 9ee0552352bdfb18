-- The bench file as the code sweeps it: once to judge its lines, and once to set what they say. Readers need only `read_of`, to which laws join these.
-- Assumes nothing.
use Rattle.std.specs.Prelude.{ℕ, ◌+◌, cond, Result, List, [], ◌∷◌, ◌++◌, eqb, length}
use Rattle.layout.specs.Machine.{Machine, Commands}
use Rattle.base_questions.specs.declared.Refusal.{Refusal}
use Rattle.base_questions.specs.Refusals.{refused, answer_or}
use Rattle.layout_texts.specs.declared.Text.{Text}
use Rattle.layout_texts.specs.declared.Text.TheVariants.{Of1978}
use Rattle.file_lines.specs.Lines.{line_of}
use Rattle.file_lines.specs.declared.Line.{Line}
use Rattle.file_phases.specs.Phases.{phase_after}
use Rattle.file_bench.specs.BenchFile.{with_title, with_passes, with_word, commands_of, Reading, file_of, text_of, file_refusal, nothing_said}
use Rattle.file_bench.specs.declared.File.{File}
use Rattle.file_bench.specs.declared.Contents.{Contents}

-- A file under way without what it sets: its title, its phase, its passes, and how many commands it has.
abbrev pub outline : Reading → File
outline r = record { title = r.title; phase = r.phase; passes = r.passes; count = length r.commands }

-- With a line more.
unfoldable pub judged_line : File → Line → File
judged_line f line =
    record {
      title = with_title f.title line;
      phase = phase_after f.title f.phase line;
      passes = with_passes f.passes line;
      count = f.count + length (commands_of line);
    }

-- With lines more.
unfoldable pub judged_lines : File → List (List ℕ) → File
judged_lines f [] = f
judged_lines f (l ∷ ls) = judged_lines (judged_line f (line_of l)) ls

-- A machine with the words that lines set.
unfoldable pub with_words : Machine → List (List ℕ) → Machine
with_words m [] = m
with_words m (l ∷ ls) = with_words (with_word m (line_of l)) ls

-- The commands of lines.
unfoldable pub all_commands : List (List ℕ) → Commands
all_commands [] = []
all_commands (l ∷ ls) = commands_of (line_of l) ++ all_commands ls

-- What a file says: the number of its refusal or 0, its text, its passes, and how many commands it has.
pub record Said : Type 0 where
  pub number : ℕ
  pub text : Text
  pub passes : ℕ
  pub count : ℕ

abbrev pub said : Result Contents Refusal → Said
said r = let contents = answer_or nothing_said r in record { number = refused r; text = contents.text; passes = contents.passes; count = contents.count }

-- What a file says, with nothing set.
unfoldable pub contents_of : List ℕ → Said
contents_of file =
    let reading = file_of file in
    let number = file_refusal file in
    cond (eqb number 0)
    (record { number = 0; text = text_of reading.title; passes = reading.passes; count = length reading.commands })
    (record { number = number; text = Of1978; passes = 0; count = 0 })

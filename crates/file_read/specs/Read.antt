-- A bench file read into runs that a host hands in (document 01, "Bench file" and "Questions at the door"; document 02, Q-10).
-- Assumes nothing.
use Rattle.std.specs.Prelude.{ℕ, cond, Result, List, [], ◌∷◌, eqb, leb, length}
use Rattle.std.proofs.lemmas.List.Edits.{sets}
use Rattle.layout.specs.Machine.{Machine, Commands}
use Rattle.layout_texts.specs.declared.Text.{Text}
use Rattle.layout_texts.specs.declared.Text.TheVariants.{Of1978, Old}
use Rattle.base_questions.specs.Questions.{Question, asked}
use Rattle.base_questions.specs.declared.Refusal.{Refusal}
use Rattle.base_questions.specs.Refusals.{refused, answer_or}
use Rattle.file_read.specs.declared.ReadAnswer.{ReadAnswer}
use Rattle.machine.specs.Questions.{question1}
use Rattle.file_bench.specs.BenchFile.{file_of, text_of, question9, question13}

-- The number that names a text.
abbrev pub text_number : Text → ℕ
text_number Of1978 = 0
text_number Old = 1

-- Question 8 of a file: are there places for all its commands?
abbrev pub question8 : List ℕ → Commands → Question
question8 file places = record { number = 8; yes = leb (length (file_of file).commands) (length places) }

-- The questions of the call, in sequence: of the file 9, asked first, and 13 after it; then of the runs 1 and 8.
unfoldable pub read_refusal : List ℕ → Machine → Commands → ℕ
read_refusal file m places = asked (question9 file ∷ question13 file ∷ question1 m ∷ question8 file places ∷ [])

-- What the call answers and leaves: the number of the refusing question or 0, the number of the file's text, its passes, how many commands it has, the machine and the places for commands.
pub record Read : Type 0 where
  pub number : ℕ
  pub text : ℕ
  pub passes : ℕ
  pub count : ℕ
  pub machine : Machine
  pub commands : Commands

abbrev pub nothing_read : ReadAnswer
nothing_read = record { text = 0; passes = 0; count = 0 }

abbrev pub read_answer : Result ReadAnswer Refusal → Machine → Commands → Read
read_answer r m places =
    let read = answer_or nothing_read r in
    record { number = refused r; text = read.text; passes = read.passes; count = read.count; machine = m; commands = places }

-- The machine is the one that the file says, its commands stand from the first place on, and places past them stay. Refused, all stays and the other answers are 0.
unfoldable pub read_into : List ℕ → Machine → Commands → Read
read_into file m places =
    let reading = file_of file in
    let number = read_refusal file m places in
    cond (eqb number 0)
    (record {
      number = 0;
      text = text_number (text_of reading.title);
      passes = reading.passes;
      count = length reading.commands;
      machine = reading.machine;
      commands = sets places 0 reading.commands;
    })
    (record { number = number; text = 0; passes = 0; count = 0; machine = m; commands = places })

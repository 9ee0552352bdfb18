-- What program wav writes for every file: a RIFF/WAVE file of what is heard, or a refusal.
-- Assumes nothing.
use Rattle.std.specs.Prelude.{ℕ, ◌+◌, ◌*◌, cond, List, [], ◌∷◌, ◌++◌, eqb, length, get_or}
use Rattle.layout.specs.Layout.{n_at}
use Rattle.layout.specs.Machine.{Machine, Memory, Commands}
use Rattle.layout_texts.specs.declared.Text.{Text}
use Rattle.base_questions.specs.Questions.{asked}
use Rattle.machine.specs.Questions.{question1, question2}
use Rattle.file_wave.specs.WaveFormat.{frame_bytes, rate_of, header, header_bytes}
use Rattle.file_printed.specs.Text.{line_bytes, refusal_line, order_refusal_line}
use Rattle.file_lines.specs.Lines.{most_passes}
use Rattle.file_bench.specs.BenchFile.{file_of, text_of, file_refusal}
use Rattle.ring_order.specs.RungOrder.{ordering_by, order_refusal}
use Rattle.ring_order.specs.declared.By.{By}
use Rattle.ring_pass.specs.BenchPass.{Ordering}
use Rattle.ring_steps.specs.Ringing.{memory_at_first}
use Rattle.ring_steps.specs.Heard.{Heard, heard, frames_of}

-- The file: the header, with the rate by N as the ringing begins, and the frames. A refusal makes no sound.
unfoldable pub wave_file : ℕ → Heard → List ℕ
wave_file n h =
    let frames = frames_of h.machines in
    cond (eqb h.number 0) (header (rate_of n) (length frames) ++ frames) []

-- What is written to standard output and to standard error.
pub record Written : Type 0 where
  pub output : List ℕ
  pub error : List ℕ

-- A refusal leaves standard output empty.
abbrev pub silent : List ℕ → Written
silent line = record { output = []; error = line }

-- A sound, or the refusal that ended it.
abbrev pub sound_written : ℕ → Heard → Written
sound_written n h = record { output = wave_file n h; error = cond (eqb h.number 0) [] (refusal_line h.number) }

-- The sound of so many passes by an ordering. Questions 1 and 2 are asked first, also where there is no pass, since N gives the rate.
unfoldable pub sounded_from : Text → Ordering → ℕ → Machine → Memory → Commands → Written
sounded_from text by passes m memory commands =
    let first = asked (question1 m ∷ question2 text m ∷ []) in
    cond (eqb first 0) (sound_written (get_or m n_at 0) (heard text by passes m memory commands)) (silent (refusal_line first))

-- The program's whole output for every file, by number, by pitch or by an order file: the bench file's questions first, then that of the order file, then the sound.
unfoldable pub wave_output_of : By → List ℕ → List ℕ → Written
wave_output_of by order_file file =
    let reading = file_of file in
    let number = file_refusal file in
    let other = order_refusal by order_file in
    cond (eqb number 0)
    (cond (eqb other 0)
    (sounded_from (text_of reading.title) (ordering_by by order_file reading.machine) reading.passes reading.machine memory_at_first reading.commands)
    (silent (order_refusal_line other)))
    (silent (refusal_line number))

-- The room for the longest file: its header, a frame of each pass, and what a step asks to be free.
abbrev pub wave_room : ℕ
wave_room = header_bytes + frame_bytes * most_passes + line_bytes

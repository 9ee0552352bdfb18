-- The steps from what reading a file answers and leaves are the whole program's output.
-- Assumes nothing.
use mathlib.Core.Path.{◌≡◌, refl, sym, ◌∙◌, ap}
use mathlib.Core.Bool.{Bool, true, false, cond}
use mathlib.Core.List.{List, [], ◌∷◌}
use Prim.Native.Nat.{ℕ, ◌≤◌}
use native.Mathlib.Omega.{arith}
use borrow.Author.Tests.{eqb-true}
use lib.Dec.{eqb}
use lib.ListN.{length, get_or, length-set}
use lib.Seq.{sets, length-sets}
use Rattle.file_printed.specs.Text.{refusal_line, order_refusal_line}
use Rattle.base_lists.proofs.Choices.{of-cond, of_test}
use Rattle.file_bytes.proofs.Puts.{first_part}
use Rattle.layout.specs.Layout.{machine_length, update_ticks_at}
use Rattle.layout.specs.Machine.{update_ticks_of}
use Rattle.layout_texts.specs.declared.Text.{Text}
use Rattle.layout_texts.specs.declared.Text.TheVariants.{Of1978}
use Rattle.layout.proofs.UpdateTicks.{counted-length, counted-own}
use Rattle.machine.proofs.FreshMachine.{fresh-length}
use Rattle.machine.proofs.ValidMachine.{reaches}
use Rattle.file_lines.specs.Lines.{line_of, lines_of}
use Rattle.file_lines.specs.declared.Line.{Line}
use Rattle.file_lines.specs.declared.Line.TheVariants.{Titled, Passes, Word, Command, Other}
use Rattle.file_bench.specs.BenchFile.{with_word, Reading, unread, with_line, with_lines, file_of, text_of, file_refusal, command_places, BenchAnswer, read_of}
use Rattle.file_bench.proofs.WholeFile.{unrefused}
use Rattle.file_bench.proofs.FewCommands.{few-commands}
use Rattle.ring_order.specs.RungOrder.{ordering_by, order_refusal}
use Rattle.ring_order.specs.declared.By.{By}
use Rattle.ring_steps.specs.Heard.{lines_heard}
use Rattle.ring_steps.specs.Ringing.{memory_at_first, heard_by, output_of}
use Rattle.ring_steps.specs.AsCoded.{Ringing, until_done, ringing_begun, rung_from}
use Rattle.ring_steps.specs.declared.Output.TheVariants.{Lines}
use Rattle.ring_steps.proofs.Printing.{steps-are-given, lines-given}

-- What reading answers and leaves, by its questions.
module _ (file m room : List ℕ) where
  abbrev told : Bool → BenchAnswer
  told b =
      let reading = file_of file in
      cond b
      (record {
        number = 0;
        text = text_of reading.title;
        passes = reading.passes;
        count = length reading.commands;
        machine = reading.machine;
        room = sets room 0 reading.commands;
      })
      (record { number = file_refusal file; text = Of1978; passes = 0; count = 0; machine = m; room = room })

  few : eqb (file_refusal file) 0 ≡ true → length (file_of file).commands ≤ command_places
  few e = few-commands file (unrefused file (eqb-true (file_refusal file) 0 e))

  -- The whole program, for every file.
  module _ (by : By) (order_file : List ℕ) where
    rung-lines : length room ≡ command_places → eqb (file_refusal file) 0 ≡ true
        → until_done (text_of (file_of file).title) (ordering_by by order_file (file_of file).machine) Lines (file_of file).passes (ringing_begun (told true)) ≡ lines_heard (heard_by by order_file (file_of file))
    unfolding heard_by
    rung-lines h e =
        let reading = file_of file in
        let text = text_of reading.title in
        let used = ordering_by by order_file reading.machine in
        let r : Ringing = record { passes = reading.passes; machine = reading.machine; memory = memory_at_first; commands = reading.commands; number = 0 } in
        ap (λ (l : List ℕ). until_done text used Lines reading.passes (record { passes = reading.passes; machine = reading.machine; memory = memory_at_first; commands = l; number = 0 }))
        (first_part reading.commands room (omega (arith, few e)))
        ∙ steps-are-given text used Lines reading.passes r (omega arith)
        ∙ lines-given _

    pub rung-file : length room ≡ command_places → rung_from by order_file (read_of file m room) ≡ output_of by order_file file
    unfolding rung_from read_of output_of
    rung-file h = go (eqb (file_refusal file) 0) refl
      where
        other : ℕ
        other = order_refusal by order_file

        go : (b : Bool) → eqb (file_refusal file) 0 ≡ b
            → rung_from by order_file (told b) ≡ cond b (cond (eqb other 0) (lines_heard (heard_by by order_file (file_of file))) (order_refusal_line other)) (refusal_line (file_refusal file))
        go true e = ap (λ (l : List ℕ). cond (eqb other 0) l (order_refusal_line other)) (rung-lines h e)
        go false e = rw e

  -- The commands that were read have room, which keeps its length.
  pub read-room : length (read_of file m room).room ≡ length room
  unfolding read_of
  read-room = of-cond (λ (a : BenchAnswer). length a.room ≡ length room) (eqb (file_refusal file) 0) (length-sets room 0 (file_of file).commands) refl

  pub read_count : (read_of file m room).count ≤ command_places
  unfolding read_of
  read_count = of_test (λ (a : BenchAnswer). a.count ≤ command_places) (eqb (file_refusal file) 0) few (λ e. omega arith)

-- The machine has the length of a fresh one.
word-length : (m : List ℕ) (l : Line) → length (with_word m l) ≡ length m
word-length m (Titled t) = refl
word-length m (Passes n) = refl
word-length m (Word place value) = length-set m place value
word-length m (Command c) = refl
word-length m Other = refl

line-length : (r : Reading) (l : Line) → length (with_line r l).machine ≡ length r.machine
unfolding with_line
line-length r l = word-length r.machine l

lines-length : (r : Reading) (ls : List (List ℕ)) → length (with_lines r ls).machine ≡ length r.machine
unfolding with_lines
lines-length r [] = refl
lines-length r (l ∷ ls) = lines-length (with_line r (line_of l)) ls ∙ line-length r (line_of l)

-- The update ticks of the machine that a file sets are those of its T and N.
pub file-ticks : (file : List ℕ) → get_or (file_of file).machine update_ticks_at 0 ≡ update_ticks_of (file_of file).machine
unfolding file_of
file-ticks file =
    let m = (with_lines unread (lines_of file)).machine in
    counted-own m (reaches m (lines-length unread (lines_of file) ∙ fresh-length))

pub read-machine : (file m room : List ℕ) → length m ≡ machine_length → length (read_of file m room).machine ≡ machine_length
unfolding read_of file_of
read-machine file m room h =
    of-cond (λ (a : BenchAnswer). length a.machine ≡ machine_length) (eqb (file_refusal file) 0) (counted-length (with_lines unread (lines_of file)).machine ∙ lines-length unread (lines_of file) ∙ fresh-length) h

-- As the code has them: the commands that were read lie within their room, and the machine is as long as a machine is.
pub read-within : (file m room : List ℕ) {number : ℕ} {text : Text} {passes count : ℕ} {m' room' : List ℕ} → length room ≡ command_places
    → record { number = number; text = text; passes = passes; count = count; machine = m'; room = room' } ≡ read_of file m room → count ≤ length room'
read-within file m room h e =
    omega (arith, read_count file m room, read-room file m room, ap (λ (a : BenchAnswer). a.count) e, ap (λ (a : BenchAnswer). length a.room) e)

pub read_whole : (file m room : List ℕ) {number : ℕ} {text : Text} {passes count : ℕ} {m' room' : List ℕ} → length m ≡ machine_length
    → record { number = number; text = text; passes = passes; count = count; machine = m'; room = room' } ≡ read_of file m room → machine_length ≡ length m'
read_whole file m room h e = sym (ap (λ (a : BenchAnswer). length a.machine) e ∙ read-machine file m room h)

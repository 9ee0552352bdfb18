-- What program sorted prints for every bench file, with or without a file of a second order.
-- Assumes nothing.
use Rattle.std.specs.Prelude.{ℕ, ◌+◌, ◌*◌, cond, List, ◌++◌, eqb}
use Rattle.base_lists.specs.Lists.{zeros}
use Rattle.layout.specs.Layout.{machine_length, generators}
use Rattle.layout.specs.Machine.{Machine, Order, ticks_of}
use Rattle.layout_texts.specs.declared.Text.{Text}
use Rattle.base_questions.specs.Refusals.{number_of}
use Rattle.base_sequences.specs.Sequences.{by_number}
use Rattle.pass_pitch.specs.Pitch.{by_pitch}
use Rattle.file_order.specs.OrderFile.{is_order_file, order_of}
use Rattle.ring_order.specs.declared.By.{By}
use Rattle.ring_order.specs.declared.By.TheVariants.{Number, Pitch, File}
use Rattle.parts.specs.Parts.{Parting, parts_of}
use Rattle.parts_shown.specs.Shown.{difference_shown}
use Rattle.file_printed.specs.Text.{line_bytes, refusal_line, order_refusal_line}
use Rattle.file_bench.specs.BenchFile.{file_of, text_of, file_refusal}
use Rattle.sorted_findings.specs.declared.Refused.{Refused}
use Rattle.sorted_findings.specs.declared.Refused.TheVariants.{Bench, OrderFile}
use Rattle.sorted_lines.specs.SortedLines.{order_lines, equal_line, failing_line, entry_bytes}

-- What parts the order by number from a second one. The run and the read list for the contents are zeros, and long enough.
abbrev pub parting_from : Text → Machine → Order → Parting
parting_from text m order = parts_of text m (by_number (ticks_of m)) order (zeros machine_length) (zeros generators)

-- The line of what is refused: of a bench file with its machine and orders, or of a file that is no order file.
abbrev pub refused_line : Refused → List ℕ
refused_line (Bench refusal) = refusal_line (number_of refusal)
refused_line (OrderFile refusal) = order_refusal_line (number_of refusal)

-- The line of what was found of two orders.
unfoldable pub found_line : Text → Order → Order → Parting → List ℕ
found_line text o₁ o₂ p =
    cond (eqb p.point 0) equal_line (failing_line p.point p.place (difference_shown text p.contents p.items o₁ o₂))

-- What is printed of a machine and a second order: the order and what was found; or its refusal alone.
unfoldable pub compared_lines : Text → Machine → Order → List ℕ
compared_lines text m order =
    let p = parting_from text m order in
    cond (eqb p.number 0) (order_lines order ++ found_line text (by_number (ticks_of m)) order p) (refusal_line p.number)

-- What is printed of a machine and an order file: question 9 of that file first.
unfoldable pub by_file_lines : Text → Machine → List ℕ → List ℕ
by_file_lines text m order_file = cond (is_order_file order_file) (compared_lines text m (order_of order_file)) (order_refusal_line 9)

-- What is printed of a machine with an order file, if that is asked for, else with the order by pitch.
abbrev pub second_lines : By → Text → Machine → List ℕ → List ℕ
second_lines Number text m order_file = compared_lines text m (by_pitch m)
second_lines Pitch text m order_file = compared_lines text m (by_pitch m)
second_lines File text m order_file = by_file_lines text m order_file

-- What is printed: the questions of the bench file; then what its machine, before any command, gives by the file's text.
unfoldable pub findings_of : List ℕ → By → List ℕ → List ℕ
findings_of file by order_file =
    let reading = file_of file in
    let number = file_refusal file in
    cond (eqb number 0) (second_lines by (text_of reading.title) reading.machine order_file) (refusal_line number)

-- The room for all that is printed: the lines of an order of 256 entries, and one line more.
abbrev pub findings_room : ℕ
findings_room = entry_bytes * generators + line_bytes

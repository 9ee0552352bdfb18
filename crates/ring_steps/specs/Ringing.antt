-- What the bench program prints (document 01, "Bench file"; document 02, Q-1 and Q-10).
-- Assumes nothing.
use Rattle.std.specs.Prelude.{ℕ, cond, List, eqb}
use Rattle.base_lists.specs.Lists.{zeros}
use Rattle.layout.specs.Layout.{memory_words}
use Rattle.layout.specs.Machine.{Memory}
use Rattle.file_printed.specs.Text.{refusal_line, order_refusal_line}
use Rattle.file_bench.specs.BenchFile.{Reading, file_of, text_of, file_refusal}
use Rattle.ring_order.specs.RungOrder.{ordering_by, order_refusal}
use Rattle.ring_order.specs.declared.By.{By}
use Rattle.ring_steps.specs.Heard.{Heard, heard, lines_heard}

-- The delay memory that a ringing begins with: zeros.
unfoldable pub memory_at_first : Memory
memory_at_first = zeros memory_words

-- What is heard of a file that is not refused: as many passes as it asks for, by its text, from its machine with its commands.
unfoldable pub heard_by : By → List ℕ → Reading → Heard
heard_by by order_file reading =
    heard (text_of reading.title) (ordering_by by order_file reading.machine) reading.passes reading.machine memory_at_first reading.commands

-- The program's whole output for every file, by number, by pitch or by an order file: the bench file's questions first, then that of the order file, then the lines.
unfoldable pub output_of : By → List ℕ → List ℕ → List ℕ
output_of by order_file file =
    let number = file_refusal file in
    let other = order_refusal by order_file in
    cond (eqb number 0)
    (cond (eqb other 0) (lines_heard (heard_by by order_file (file_of file))) (order_refusal_line other))
    (refusal_line number)

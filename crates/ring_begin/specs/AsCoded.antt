-- The beginning of a ringing: what is refused before it.
-- Assumes nothing.
use Rattle.std.specs.Prelude.{ℕ, cond, List, [], Result, Ok, Err, eqb, take}
use Rattle.layout.specs.Machine.{Machine, Memory}
use Rattle.file_printed.specs.Text.{refusal_line, order_refusal_line}
use Rattle.file_bench.specs.BenchFile.{file_refusal}
use Rattle.ring_order.specs.RungOrder.{order_refusal}
use Rattle.ring_order.specs.declared.By.{By}
use Rattle.ring_steps.specs.AsCoded.{Ringing}
use Rattle.ring_steps.specs.declared.Output.TheVariants.{Lines}
use Rattle.ring_gathering.specs.AsCoded.{printed_by}
use Rattle.ring_begin.specs.declared.Beginning.{Beginning}
use Rattle.ring_begin.specs.declared.line.Line.{Line}
use Rattle.ring_begin.specs.Begun.{used_by}

-- The line of what is refused before a pass: a bench file by its number, else an order file by its number. None where neither is.
unfoldable pub refusals_line : ℕ → ℕ → List ℕ
refusals_line number other = cond (eqb number 0) (cond (eqb other 0) [] (order_refusal_line other)) (refusal_line number)

abbrev pub refused_line : By → List ℕ → List ℕ → List ℕ
refused_line by order_file file = refusals_line (file_refusal file) (order_refusal by order_file)

-- The ringing that begins so, with its machine, delay memory and the room of its commands.
abbrev pub ringing_of : Beginning → Machine → Memory → List ℕ → Ringing
ringing_of b m memory room = record { passes = b.passes; machine = m; memory = memory; commands = take b.count room; number = 0 }

-- What is printed from a beginning by way of a buffer of so many bytes: the line of what is refused alone; else what is gathered, one gathering after another until no pass is left.
unfoldable pub printed_on : ℕ → Result Beginning Line → Machine → Memory → List ℕ → List ℕ
printed_on size (Ok b) m memory room = printed_by b.text (used_by b) Lines size b.passes (ringing_of b m memory room)
printed_on size (Err line) m memory room = take line.length line.buffer

-- By what the passes of a bench file go: by number, by pitch, or by an order file.
-- Assumes nothing.
use Rattle.std.specs.Prelude.{ℕ, cond, ◌&&◌, List, eqb, length}
use Rattle.layout.specs.Machine.{Machine}
use Rattle.file_bytes.specs.Bytes.{ascii, starts_with}
use Rattle.base_sequences.specs.Sequences.{by_number}
use Rattle.pass_pitch.specs.Pitch.{by_pitch}
use Rattle.file_order.specs.OrderFile.{is_order_file, order_of}
use Rattle.ring_pass.specs.BenchPass.{Ordering, throughout}
use Rattle.ring_order.specs.declared.By.{By}
use Rattle.ring_order.specs.declared.By.TheVariants.{Number, Pitch, File}

-- What an argument asks for: `-` the order by pitch, any other the order file of that name.
unfoldable pub by_name : List ℕ → By
by_name name = cond (eqb (length name) 1 && starts_with name (ascii "-")) Pitch File

-- The ordering: by number; the order by pitch of the machine as the ringing begins, used throughout; or that of an order file, used throughout.
abbrev pub ordering_by : By → List ℕ → Machine → Ordering
ordering_by Number file m = by_number
ordering_by Pitch file m = throughout (by_pitch m)
ordering_by File file m = throughout (order_of file)

-- Question 9 of an order file: 9 where it is none, else 0. The other two have no file.
abbrev pub order_refusal : By → List ℕ → ℕ
order_refusal Number file = 0
order_refusal Pitch file = 0
order_refusal File file = cond (is_order_file file) 0 9

-- What a beginning answers.
-- Assumes nothing.
use Rattle.std.specs.Prelude.{ℕ, ◌≤◌, ◌≡◌, List, [], Result, Ok, Err, option_map, length, take}
use Rattle.layout.specs.Layout.{generators}
use Rattle.layout.specs.Machine.{ticks_of}
use Rattle.file_bench.specs.BenchFile.{BenchAnswer}
use Rattle.ring_pass.specs.BenchPass.{Ordering, ordering_of}
use Rattle.ring_order.specs.RungOrder.{ordering_by}
use Rattle.ring_order.specs.Filled.{filled_part, InRoom}
use Rattle.ring_order.specs.declared.By.{By}
use Rattle.ring_begin.specs.declared.Beginning.{Beginning}
use Rattle.ring_begin.specs.declared.line.Line.{Line}

-- The line that is answered, and none where nothing is refused.
abbrev pub line_of : {A : Type 0} → Result A Line → List ℕ
line_of (Ok _) = []
line_of (Err line) = take line.length line.buffer

-- The ordering of the passes from a beginning.
abbrev pub used_by : Beginning → Ordering
used_by b = ordering_of (option_map filled_part b.order)

-- A beginning by what reading the bench file answers and leaves. Of a machine with more ticks than generators, which no pass lets through, any order is gone by.
pub record Begins (b : Beginning) (by : By) (order_file : List ℕ) (a : BenchAnswer) : Type 0 where
  pub text : b.text ≡ a.text
  pub passes : b.passes ≡ a.passes
  pub count : b.count ≡ a.count
  pub commands : b.count ≤ length a.room
  pub entries : InRoom b.order
  pub ordering : ticks_of a.machine ≤ generators → used_by b ≡ ordering_by by order_file a.machine

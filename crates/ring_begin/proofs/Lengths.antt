-- The lengths of what a ringing begins with.
-- Assumes nothing.
use mathlib.Core.Path.{◌≡◌, sym, ap, ◌∙◌}
use mathlib.Core.List.{List}
use Prim.Native.Nat.{ℕ}
use lib.ListN.{length}
use Rattle.base_lists.proofs.Zeros.{zeros-length}
use Rattle.layout.specs.Layout.{machine_length, memory_words}
use Rattle.file_bench.specs.BenchFile.{read_of}
use Rattle.ring_steps.specs.Ringing.{memory_at_first}
use Rattle.ring_steps.proofs.RungFile.{read-machine}

pub begun-machine : (file m room : List ℕ) {m' : List ℕ} → length m ≡ machine_length → m' ≡ (read_of file m room).machine → machine_length ≡ length m'
begun-machine file m room h e = sym (ap length e ∙ read-machine file m room h)

pub begun-memory : {memory : List ℕ} → memory ≡ memory_at_first → memory_words ≡ length memory
unfolding memory_at_first
begun-memory e = sym (ap length e ∙ zeros-length memory_words)

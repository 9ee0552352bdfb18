-- What the code hands on for an ordering.
-- Assumes nothing.
use Rattle.std.specs.Prelude.{Option, None, Some, option_copied}
use Rattle.layout.specs.Machine.{Order}
use Rattle.base_sequences.specs.Sequences.{by_number}
use Rattle.ring_pass.specs.BenchPass.{Ordering, ordering_of}
use Rattle.ring_pass.specs.declared.Bench.{Bench}

-- The ordering of a bench.
abbrev pub ordering_in : Bench → Ordering
ordering_in bench = ordering_of (option_copied bench.order)

-- The entries that its passes go by, those of a given order or by number, with more after them.
abbrev pub entries_in : Option Order → Order
entries_in (Some order) = order
entries_in None = by_number 256

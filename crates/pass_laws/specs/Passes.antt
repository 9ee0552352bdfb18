-- Passes one after the other on one machine and one delay memory (document 01, "A pass, and two orders of it"; document 02, Q-1).
-- Assumes nothing.
use Rattle.std.specs.Prelude.{ℕ, List, [], ◌∷◌, replicate}
use Rattle.layout.specs.Machine.{Machine, Order, Items, Places, Memory, ticks_of}
use Rattle.layout_texts.specs.declared.Text.{Text}
use Rattle.pass_model.specs.Pass.{Call, written_data, pass_of}
use Rattle.base_sequences.specs.Sequences.{by_number}

-- What a pass brings beside the machine and delay memory: items to read, and places for written items.
pub record PassData : Type 0 where
  pub items : Items
  pub places : Places

-- The call of such a pass, by an order and over a delay memory.
abbrev pub call_of : Order → Memory → PassData → Call
call_of order memory d = record { order = order; items = d.items; places = d.places; memory = memory }

-- What passes leave: the machine, delay memory, and the written data of each pass. The marks of clipped words are no part of it.
pub record Rung : Type 0 where
  pub machine : Machine
  pub memory : Memory
  pub written : List (List ℕ)

-- Passes by one order, each on the machine and the delay memory that the one before left. A refused pass leaves both as they were and writes nothing.
unfoldable pub rung_by : Text → Order → Machine → Memory → List PassData → Rung
rung_by text order m memory [] = record { machine = m; memory = memory; written = [] }
rung_by text order m memory (d ∷ ds) =
    let r = pass_of text m (call_of order memory d) in
    let rest = rung_by text order r.machine r.memory ds in
    record { machine = rest.machine; memory = rest.memory; written = written_data r ∷ rest.written }

-- A pass with nothing to read and no place to write; and so many of them by number.
abbrev pub no_data : PassData
no_data = record { items = []; places = [] }

abbrev pub passes_by_number : Text → ℕ → Machine → Memory → Rung
passes_by_number text n m memory = rung_by text (by_number (ticks_of m)) m memory (replicate n no_data)

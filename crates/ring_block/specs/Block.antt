-- A ringing in blocks: so many passes at a time, each followed by an update with the commands still left, and the DACs after each as signed numbers.
-- Assumes nothing.
use Rattle.std.specs.Prelude.{ℕ, zero, suc, ◌-◌, ◌/◌, ◌%◌, ◌^◌, cond, List, [], ◌∷◌, ◌++◌, eqb, leb, length, get_or}
use Rattle.std.proofs.lemmas.List.Edits.{sets}
use Rattle.base_words.specs.Words.{extended}
use Rattle.layout.specs.Layout.{dac_at}
use Rattle.layout.specs.Machine.{Machine, Memory, Commands, Order}
use Rattle.layout_texts.specs.declared.Text.{Text}
use Rattle.base_sequences.specs.Sequences.{by_number}
use Rattle.ring_pass.specs.BenchPass.{Ordering, throughout, passed}
use Rattle.ring_steps.specs.Heard.{update_after}

-- A ringing as it is left: the machines after each pass and its update, the number of the refusal that ended it or 0, and the machine, delay memory and commands that there are then.
pub record Rung : Type 0 where
  pub machines : List Machine
  pub number : ℕ
  pub machine : Machine
  pub memory : Memory
  pub commands : Commands

-- One that has just ended, with the number of its refusal or 0.
abbrev pub ended : ℕ → Machine → Memory → Commands → Rung
ended n m memory commands = record { machines = []; number = n; machine = m; memory = memory; commands = commands }

-- One with passes before it, by the machines after each.
abbrev pub rung_after : List Machine → Rung → Rung
rung_after ms r = record { machines = ms ++ r.machines; number = r.number; machine = r.machine; memory = r.memory; commands = r.commands }

-- So many passes by an ordering, each followed by an update with the commands still left; a refusal ends them.
unfoldable pub rung : Text → Ordering → ℕ → Machine → Memory → Commands → Rung
rung text by zero m memory commands = ended 0 m memory commands
rung text by (suc passes) m memory commands =
    let p = passed text by m memory in
    let u = update_after text p.machine commands in
    cond (eqb p.number 0)
    (cond (eqb u.number 0) (rung_after (u.machine ∷ []) (rung text by passes u.machine p.memory u.rest)) (ended u.number u.machine p.memory u.rest))
    (ended p.number p.machine p.memory commands)

-- One ringing and then another; a refusal in the first is the end.
abbrev pub then_rung : Rung → Rung → Rung
then_rung r s = cond (eqb r.number 0) (rung_after r.machines s) r

-- So many passes more, from where a ringing was left.
abbrev pub rung_on : Text → Ordering → ℕ → Rung → Rung
rung_on text by passes r = rung text by passes r.machine r.memory r.commands

-- The ordering of a call: an order that has entries, used throughout; one that has none is by number.
abbrev pub ordering_for : Order → Ordering
ordering_for [] = by_number
ordering_for (g ∷ gs) = throughout (g ∷ gs)

-- A frame: the chosen DACs of a machine as signed numbers of 32 bits. Of a chosen number the low 4 bits count.
unfoldable pub dacs_of : List ℕ → Machine → List ℕ
dacs_of [] m = []
dacs_of (d ∷ ds) m = extended 20 32 (get_or m (dac_at (d % 2 ^ 4)) 0) ∷ dacs_of ds m

-- The frames of machines, one after another.
unfoldable pub frames_of : List ℕ → List Machine → List ℕ
frames_of dacs [] = []
frames_of dacs (m ∷ ms) = dacs_of dacs m ++ frames_of dacs ms

-- How many passes are rung: no more than there is room for whole frames of so many words. Frames of none need no room.
unfoldable pub fitting : ℕ → ℕ → ℕ → ℕ
fitting zero room passes = passes
fitting (suc width) room passes = cond (leb passes (room / suc width)) passes (room / suc width)

-- What a call is handed beside the machine: delay memory, commands, an order or none, how many passes, the chosen DACs, and the run for frames.
pub record Call : Type 0 where
  pub memory : Memory
  pub commands : Commands
  pub order : Order
  pub passes : ℕ
  pub dacs : List ℕ
  pub frames : List ℕ

-- What it answers and leaves: the number of the refusal that ended it or 0, the passes done, the commands taken, the machine, delay memory and the run for frames.
pub record Block : Type 0 where
  pub number : ℕ
  pub done : ℕ
  pub taken : ℕ
  pub machine : Machine
  pub memory : Memory
  pub frames : List ℕ

-- The block of a ringing: its frames stand at the start of the run.
abbrev pub block_from : Commands → List ℕ → List ℕ → Rung → Block
block_from commands dacs frames r =
    record {
      number = r.number;
      done = length r.machines;
      taken = length commands - length r.commands;
      machine = r.machine;
      memory = r.memory;
      frames = sets frames 0 (frames_of dacs r.machines);
    }

unfoldable pub block_of : Text → Machine → Call → Block
block_of text m call =
    let passes = fitting (length call.dacs) (length call.frames) call.passes in
    block_from call.commands call.dacs call.frames (rung text (ordering_for call.order) passes m call.memory call.commands)

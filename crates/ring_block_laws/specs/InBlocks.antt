-- A ringing cut into blocks, and two calls in sequence.
-- Assumes nothing.
use Rattle.std.specs.Prelude.{ℕ, zero, ◌+◌, cond, List, [], ◌∷◌, ◌++◌, eqb, drop}
use Rattle.layout.specs.Machine.{Machine, Memory, Commands}
use Rattle.layout_texts.specs.declared.Text.{Text}
use Rattle.ring_pass.specs.BenchPass.{Ordering}
use Rattle.ring_steps.specs.Heard.{Heard}
use Rattle.ring_block.specs.Block.{Rung, ended, rung, then_rung, Call, Block}

-- The machines and the number of a ringing.
abbrev pub heard_of : Rung → Heard
heard_of r = record { machines = r.machines; number = r.number }

-- The passes of all blocks.
unfoldable pub passes_of : List ℕ → ℕ
passes_of [] = zero
passes_of (n ∷ ns) = n + passes_of ns

-- A ringing in blocks of so many passes each, every one from where the one before was left; a refusal is the end.
unfoldable pub in_blocks : Text → Ordering → List ℕ → Machine → Memory → Commands → Rung
in_blocks text by [] m memory commands = ended 0 m memory commands
in_blocks text by (n ∷ ns) m memory commands = let r = rung text by n m memory commands in then_rung r (in_blocks text by ns r.machine r.memory r.commands)

-- A call for so many passes more, after a call that answered a block: with the commands still left, and a run for frames of its own.
abbrev pub call_after : Call → Block → ℕ → List ℕ → Call
call_after call b more frames =
    record { memory = b.memory; commands = drop b.taken call.commands; order = call.order; passes = more; dacs = call.dacs; frames = frames }

-- Both calls as one: for the passes of both, with one run for all frames.
abbrev pub call_of_both : Call → ℕ → List ℕ → Call
call_of_both call more frames =
    record { memory = call.memory; commands = call.commands; order = call.order; passes = call.passes + more; dacs = call.dacs; frames = call.frames ++ frames }

-- What two calls answer and leave together; after a refusal in the first there is no second, and its run for frames stays.
abbrev pub blocks_joined : Block → Block → List ℕ → Block
blocks_joined b c frames =
    cond (eqb b.number 0)
    (record { number = c.number; done = b.done + c.done; taken = b.taken + c.taken; machine = c.machine; memory = c.memory; frames = b.frames ++ c.frames })
    (record { number = b.number; done = b.done; taken = b.taken; machine = b.machine; memory = b.memory; frames = b.frames ++ frames })

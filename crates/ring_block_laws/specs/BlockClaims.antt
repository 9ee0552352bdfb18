-- What is claimed of blocks of passes beyond the call's contract.
-- Assumes nothing.
use Rattle.std.specs.Prelude.{ℕ, ◌*◌, ◌≤◌, List, [], ◌≡◌, length}
use Rattle.std.proofs.lemmas.List.Edits.{sets}
use Rattle.layout.specs.Machine.{Machine, Memory, Commands}
use Rattle.layout_texts.specs.declared.Text.{Text}
use Rattle.base_sequences.specs.Sequences.{by_number}
use Rattle.file_bench.specs.BenchFile.{file_of, text_of, file_refusal}
use Rattle.ring_pass.specs.BenchPass.{Ordering}
use Rattle.ring_order.specs.declared.By.TheVariants.{Number}
use Rattle.ring_steps.specs.Heard.{heard, lines_heard}
use Rattle.ring_steps.specs.Ringing.{memory_at_first, output_of}
use Rattle.ring_block.specs.Block.{rung, ordering_for, frames_of, fitting, Call, block_from, block_of}
use Rattle.ring_block_laws.specs.InBlocks.{heard_of, passes_of, in_blocks, call_after, call_of_both, blocks_joined}

pub record BlockClaims : Type 0 where
  -- A block's ringing is what is heard: the machines after each pass and its update, and the number of the refusal.
  pub rung-heard : (text : Text) (by : Ordering) (n : ℕ) (m : Machine) (memory : Memory) (commands : Commands)
      → heard_of (rung text by n m memory commands) ≡ heard text by n m memory commands
  -- So a call answers the number of what is heard of as many passes as have room, counts its passes, and has their frames at the start of its run.
  pub block-heard : (text : Text) (m : Machine) (call : Call) →
      let h = heard text (ordering_for call.order) (fitting (length call.dacs) (length call.frames) call.passes) m call.memory call.commands in
      ((block_of text m call).number ≡ h.number) × (((block_of text m call).done ≡ length h.machines) × ((block_of text m call).frames ≡ sets call.frames 0 (frames_of call.dacs h.machines)))
  -- It is the ringing that `ring` prints: of a bench file that is not refused, a call with its machine, commands and passes over a delay memory of zeros, and with room for all frames, has the frames of the machines whose lines are printed.
  pub block-prints : (file : List ℕ) → file_refusal file ≡ 0 → (dacs frames : List ℕ) → (file_of file).passes * length dacs ≤ length frames →
      let f = file_of file in
      let r = rung (text_of f.title) by_number f.passes f.machine memory_at_first f.commands in
      (output_of Number [] file ≡ lines_heard (heard_of r))
      × (block_of (text_of f.title) f.machine (record { memory = memory_at_first; commands = f.commands; order = []; passes = f.passes; dacs = dacs; frames = frames }) ≡ block_from f.commands dacs frames r)
  -- Any way of cutting a ringing into blocks leaves the same.
  pub blocks-join : (text : Text) (by : Ordering) (cuts : List ℕ) (m : Machine) (memory : Memory) (commands : Commands)
      → in_blocks text by cuts m memory commands ≡ rung text by (passes_of cuts) m memory commands
  -- And so do calls: one whose run has room for exactly its passes, and then one with the commands still left, are one call for the passes of both.
  pub calls-join : (text : Text) (m : Machine) (call : Call) (more : ℕ) (frames : List ℕ) → call.passes * length call.dacs ≡ length call.frames →
      let b = block_of text m call in
      block_of text m (call_of_both call more frames) ≡ blocks_joined b (block_of text b.machine (call_after call b more frames)) frames

-- The claims of blocks, proved.
-- Assumes nothing.
use mathlib.Core.Path.{◌≡◌, sym, ap}
use mathlib.Core.List.{List, []}
use Prim.Native.Nat.{ℕ, ◌*◌, ◌≤◌}
use borrow.Author.Tests.{eq-eqb}
use lib.ListN.{length}
use lib.Seq.{sets}
use Rattle.layout.specs.Machine.{Machine}
use Rattle.layout_texts.specs.declared.Text.{Text}
use Rattle.base_sequences.specs.Sequences.{by_number}
use Rattle.file_bench.specs.BenchFile.{Reading, file_of, text_of, file_refusal}
use Rattle.ring_order.specs.declared.By.TheVariants.{Number}
use Rattle.ring_steps.specs.Heard.{Heard, heard, lines_heard}
use Rattle.ring_steps.specs.Ringing.{memory_at_first, heard_by, output_of}
use Rattle.ring_block.specs.Block.{rung, ordering_for, frames_of, fitting, Call, block_from, block_of}
use Rattle.ring_block.proofs.Blocks.{rung-heard}
use Rattle.ring_block_laws.specs.InBlocks.{heard_of}
use Rattle.ring_block_laws.specs.BlockClaims.{BlockClaims}
use Rattle.ring_block_laws.proofs.Runs.{fit-enough}
use Rattle.ring_block_laws.proofs.Joining.{blocks-join-all, calls-join}

block-heard : (text : Text) (m : Machine) (call : Call) →
    let h = heard text (ordering_for call.order) (fitting (length call.dacs) (length call.frames) call.passes) m call.memory call.commands in
    ((block_of text m call).number ≡ h.number) × (((block_of text m call).done ≡ length h.machines) × ((block_of text m call).frames ≡ sets call.frames 0 (frames_of call.dacs h.machines)))
unfolding block_of
block-heard text m call =
    let e = rung-heard text (ordering_for call.order) (fitting (length call.dacs) (length call.frames) call.passes) m call.memory call.commands in
    (ap (λ (h : Heard). h.number) e, (ap (λ (h : Heard). length h.machines) e, ap (λ (h : Heard). sets call.frames 0 (frames_of call.dacs h.machines)) e))

module _ (file : List ℕ) (good : file_refusal file ≡ 0) (dacs frames : List ℕ) (room : (file_of file).passes * length dacs ≤ length frames) where
  abbrev f : Reading
  f = file_of file

  printed : output_of Number [] file ≡ lines_heard (heard_of (rung (text_of f.title) by_number f.passes f.machine memory_at_first f.commands))
  unfolding output_of heard_by
  printed = rw (eq-eqb (file_refusal file) 0 good) (ap lines_heard (sym (rung-heard (text_of f.title) by_number f.passes f.machine memory_at_first f.commands)))

  whole : block_of (text_of f.title) f.machine (record { memory = memory_at_first; commands = f.commands; order = []; passes = f.passes; dacs = dacs; frames = frames })
      ≡ block_from f.commands dacs frames (rung (text_of f.title) by_number f.passes f.machine memory_at_first f.commands)
  unfolding block_of
  whole = rw (fit-enough (length dacs) (length frames) f.passes room)

pub block-claims : BlockClaims
block-claims =
    record {
      rung-heard = rung-heard;
      block-heard = block-heard;
      block-prints = λ file good dacs frames room. (printed file good dacs frames room, whole file good dacs frames room);
      blocks-join = blocks-join-all;
      calls-join = calls-join;
    }

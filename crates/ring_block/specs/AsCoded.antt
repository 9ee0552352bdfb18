-- A block as the code goes: the stages that it comes through. Readers need only `block_of`.
-- Assumes nothing.
use Rattle.std.specs.Prelude.{ℕ, ◌^◌, ◌<◌, cond, List, [], eqb, get_or, drop}
use Rattle.base_questions.specs.Refusals.{refused}
use Rattle.layout.specs.Layout.{dac_at}
use Rattle.layout.specs.Machine.{Machine, Memory, Commands, Reaches}
use Rattle.ring_steps.specs.AsCoded.{Ringing}
use Rattle.ring_block.specs.Block.{dacs_of}
use Rattle.ring_block.specs.declared.Stage.{Stage}

-- What putting a frame asks of a machine: it reaches so far, and the DAC words have 20 bits.
pub record Sounding (m : Machine) : Type 0 where
  pub reaches : Reaches m
  pub low : (d : ℕ) → d < 16 → get_or m (dac_at d) 0 < 2 ^ 20

-- A stage with its machine, delay memory and all its commands as a ringing under way.
abbrev pub ringing_at : Stage → Machine → Memory → Commands → Ringing
ringing_at at m memory commands = record { passes = at.passes; machine = m; memory = memory; commands = drop at.taken commands; number = refused at.end }

-- After a step that ended with the number of a refusal or 0: the passes that it did, and its frame. A refused one has none.
unfoldable pub done_by : ℕ → ℕ
done_by number = cond (eqb number 0) 1 0

unfoldable pub frame_by : ℕ → List ℕ → Machine → List ℕ
frame_by number dacs m = cond (eqb number 0) (dacs_of dacs m) []

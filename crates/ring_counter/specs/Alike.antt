-- What machines that differ in the counter's high bits alone have in common: their passes, their updates and what is heard of them (document 02, Q-9).
-- Assumes nothing.
use Rattle.std.specs.Prelude.{ℕ, ◌<◌, [], ◌≡◌, length, get_or}
use Rattle.layout.specs.Layout.{counter_at, dac_at}
use Rattle.pass_model.specs.Pass.{Outcome}
use Rattle.command_update.specs.Update.{UpdateOutcome as Updated}
use Rattle.file_printed.specs.Text.{pass_line}
use Rattle.ring_steps.specs.Heard.{Heard, line_after, frames_of}
use Rattle.ring_counter.specs.SameButHigh.{SameButHigh}

-- Two passes answer the same number, counts and marks and leave the same places and delay memory, and machines that differ in the counter's high bits alone.
pub record PassedAlike (p q : Outcome) : Type 0 where
  pub number : p.number ≡ q.number
  pub read : p.read ≡ q.read
  pub written : p.written ≡ q.written
  pub clipped : p.clipped ≡ q.clipped
  pub places : p.places ≡ q.places
  pub memory : p.memory ≡ q.memory
  pub machine : SameButHigh p.machine q.machine

-- Two updates answer the same number and hand back the same commands, and leave machines that differ in the counter's high bits alone.
pub record UpdatedAlike (u v : Updated) : Type 0 where
  pub number : u.number ≡ v.number
  pub rest : u.rest ≡ v.rest
  pub machine : SameButHigh u.machine v.machine

-- What is heard of two ringings: the same number ends them, there are as many machines, which differ in the counter's high bits alone, and the frames are the same.
-- The line of each is that of the other but for the counter.
pub record HeardAlike (h k : Heard) : Type 0 where
  pub number : h.number ≡ k.number
  pub as_many : length h.machines ≡ length k.machines
  pub machine : (i : ℕ) → i < length h.machines → SameButHigh (get_or h.machines i []) (get_or k.machines i [])
  pub frames : frames_of h.machines ≡ frames_of k.machines
  pub line : (i : ℕ) → i < length h.machines
      → line_after (get_or h.machines i [])
      ≡ pass_line (get_or (get_or h.machines i []) counter_at 0) (get_or (get_or k.machines i []) (dac_at 0) 0) (get_or (get_or k.machines i []) (dac_at 1) 0)

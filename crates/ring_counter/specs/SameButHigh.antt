-- Two machines that differ in the high 12 bits of the pass counter alone (document 02, Q-9).
-- Assumes nothing.
use Rattle.std.specs.Prelude.{ℕ, ◌≢◌, ◌≡◌, length, get_or}
use Rattle.layout.specs.Layout.{counter_at}
use Rattle.layout.specs.Machine.{Machine, low_counter}

-- They are as long, their counters have the same low 20 bits, and every other word is the same.
pub record SameButHigh (m n : Machine) : Type 0 where
  pub as_long : length m ≡ length n
  pub low : low_counter m ≡ low_counter n
  pub others : (i : ℕ) → i ≢ counter_at → get_or m i 0 ≡ get_or n i 0

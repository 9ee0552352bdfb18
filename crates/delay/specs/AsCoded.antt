-- Turns of one delay unit, one after another, and when its words come back (document 02, Q-1; the 1978 text, "Delay units").
-- Assumes nothing.
use Rattle.std.specs.Prelude.{ℕ, ◌+◌, ◌<◌, ◌≡◌, get_or}
use Rattle.layout.specs.Machine.{Memory}
use Rattle.delay.specs.declared.Delay.{Delay}
use Rattle.delay.specs.Delay.{delay_turn_of}

-- n turns of a unit: turn i finds the unit, delay memory and a word from the modifier; nothing but its turns changes the unit.
pub record Turns (n : ℕ) (unit : ℕ → Delay) (memory : ℕ → Memory) (word : ℕ → ℕ) : Type 0 where
  pub unchanged : (i : ℕ) → i < n → unit (i + 1) ≡ (delay_turn_of (unit i) (memory i) (word i)).unit

-- Nothing but the first n turns writes a place of delay memory; its other places are free between two turns.
pub record OnlyTurnsWrite (place n : ℕ) (unit : ℕ → Delay) (memory : ℕ → Memory) (word : ℕ → ℕ) : Type 0 where
  pub unwritten : (i : ℕ) → i < n → get_or (memory (i + 1)) place 0 ≡ get_or (delay_turn_of (unit i) (memory i) (word i)).memory place 0

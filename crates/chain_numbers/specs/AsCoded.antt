-- What the code asks of the names that it goes through, and of the numbers found so far.
-- Assumes nothing.
use Rattle.std.specs.Prelude.{ℕ, ◌+◌, ◌*◌, ◌≤◌, ◌<◌, List, length, get_or}
use Rattle.chain_numbers.specs.Earliest.{modifiers}

-- The n names from a place on stand in their run and are below 128, and the numbers at them are small.
pub record Waiting (names numbers : List ℕ) (at n : ℕ) : Type 0 where
  pub within : at + n ≤ length names
  pub below : (k : ℕ) → k < n → get_or names (at + k) 0 < modifiers
  pub small : (k : ℕ) → k < n → get_or numbers (get_or names (at + k) 0) 0 ≤ 4 * modifiers

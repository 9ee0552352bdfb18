-- Numbers for a chain that meet its rules (document 02, Q-11).
-- Assumes nothing.
use Rattle.std.specs.Prelude.{ℕ, suc, ◌+◌, ◌≤◌, ◌<◌}
use Rattle.chain_entries.specs.Entries.{Chain, size, names_in, name_of}
use Rattle.chain_numbers.specs.Earliest.{lag, modifiers}

-- Numbers rise along the list, and a writer stands at least 4 below its early reader and 1 below its late reader.
pub record Numbering (c : Chain) (f : ℕ → ℕ) : Type 0 where
  pub rise : (i : ℕ) → suc i < size c → f i < f (suc i)
  pub seen : (i k : ℕ) → i < size c → k < names_in c.entries i → f (name_of c i k) + lag c.entries i ≤ f i

-- Numbers pass 127 at some entry.
pub record PassesLast (c : Chain) (f : ℕ → ℕ) : Type 0 where
  pub entry : ℕ
  pub inside : entry < size c
  pub past : modifiers ≤ f entry

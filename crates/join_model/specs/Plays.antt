-- A bell that sounds in one machine as it does in another (document 02, Q-12).
-- Assumes nothing.
use Rattle.std.specs.Prelude.{ℕ, ◌+◌, ◌<◌, true, ◌≡◌, get_or}
use Rattle.layout.specs.Layout.{generator_at, generator_words, quadrant_at, quadrant_words, dac_at, dacs}
use Rattle.layout.specs.Machine.{Machine, ticks_of}
use Rattle.pass_sums.specs.Sums.{generator_this, generator_last}
use Rattle.join_model.specs.Join.{uses_word, uses_dac}

-- A bell is the generators of a machine below its T, with the sum words and DACs that it uses. Its generators stand in machine m from one place on and in machine n from another:
-- all their words are the same in both, and so are the sum words, this and last, and the DAC words that the bell uses.
pub record Plays (bell m : Machine) (from : ℕ) (n : Machine) (at : ℕ) : Type 0 where
  pub generator : (g k : ℕ) → g < ticks_of bell → k < generator_words → get_or n (generator_at (at + g) + k) 0 ≡ get_or m (generator_at (from + g) + k) 0
  pub this : (w : ℕ) → w < quadrant_words → uses_word bell w ≡ true → get_or n (quadrant_at generator_this + w) 0 ≡ get_or m (quadrant_at generator_this + w) 0
  pub last : (w : ℕ) → w < quadrant_words → uses_word bell w ≡ true → get_or n (quadrant_at generator_last + w) 0 ≡ get_or m (quadrant_at generator_last + w) 0
  pub dac : (d : ℕ) → d < dacs → uses_dac bell d ≡ true → get_or n (dac_at d) 0 ≡ get_or m (dac_at d) 0

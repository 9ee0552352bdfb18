-- What contents must be to tell two orders of the generators apart, whatever the text: machines that have given settings and other words, and read lists.
-- Assumes nothing.
use Rattle.std.specs.Prelude.{ℕ, ◌+◌, ◌<◌, Bool, true, [], ◌≢◌, ◌≡◌, get_or, take}
use Rattle.base_lists.specs.Lists.{count_below}
use Rattle.layout.specs.Layout.{generator_at, dac_at, GMODE}
use Rattle.layout.specs.Machine.{Machine, Items}
use Rattle.pass_sums.specs.Sums.{generator_this}
use Rattle.pass_model.specs.Generators.{Generators, Taken}
use Rattle.compare_agreement.specs.Agreement.{Settings}
use Rattle.equal_endings.specs.AsCoded.{turn_at, p_at, sends_at, triggers_at}

-- Machines that a condition holds of, and what the generators of a text with these settings bring on them.
pub record Contents (of : Generators) (s : Settings) (Like : Machine → Type 0) : Type 0 where
  -- One on which every generator that can trigger does, and GMODE of one that waits tells afterwards whether it was told.
  pub triggering : Machine
  pub triggering-like : Like triggering
  pub triggers : (g : ℕ) → g < s.ticks → s.triggering g ≡ true → triggers_at of triggering g ≡ true
  pub tells : (g : ℕ) → g < s.ticks → s.waits g ≡ true → (a b : Bool) → (turn_at of triggering g a).unit.gmode ≡ (turn_at of triggering g b).unit.gmode → a ≡ b
  -- One on which what is sent tells its source.
  pub sending : Machine
  pub sending-like : Like sending
  pub sources : (a b : ℕ) → a < s.ticks → b < s.ticks → sends_at of sending a ≡ sends_at of sending b → s.source a ≡ s.source b
  -- For each number one on which the generator of this number sounds and all others are silent.
  pub sounding : ℕ → Machine
  pub sounding-like : (k : ℕ) → Like (sounding k)
  pub sounds : (k : ℕ) → k < s.ticks → 0 < p_at of (sounding k) k
  pub others-silent : (k g : ℕ) → g < s.ticks → g ≢ k → p_at of (sounding k) g ≡ 0

-- A read list has items by a rule for all generators that replace.
abbrev pub HasItems : Settings → (ℕ → ℕ) → Items → Type 0
HasItems s rule items = (i : ℕ) → i < count_below s.replacing s.ticks → get_or items i 0 ≡ rule i

-- Two stages leave the same as far as orders can be told apart by it: each GMODE, the DAC words, generator-this and the written items.
pub record SameHeard (t u : Taken) : Type 0 where
  pub modes : (g : ℕ) → g < 256 → get_or t.words (generator_at g + GMODE) 0 ≡ get_or u.words (generator_at g + GMODE) 0
  pub dacs : (d : ℕ) → d < 16 → get_or t.words (dac_at d) 0 ≡ get_or u.words (dac_at d) 0
  pub sums : (w : ℕ) → w < 64 → get_or (get_or t.sums generator_this []) w 0 ≡ get_or (get_or u.sums generator_this []) w 0
  pub written : take t.writes t.places ≡ take u.writes u.places

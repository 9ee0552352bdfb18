-- The rule of the call that asks whether every order leaves the same, in the words of its clauses (document 02, Q-2). Only generators below T count.
-- Assumes nothing.
use Rattle.std.specs.Prelude.{ℕ, ◌<◌, true, ◌≡◌}
use Rattle.layout.specs.Layout.{dacs, quadrant_words}
use Rattle.compare_agreement.specs.Agreement.{Settings, awaits, replaces_word, adds_to_word}

pub record Clauses (s : Settings) : Type 0 where
  -- "No waiting generator has a neighbour below that can trigger."
  pub awaiting : (g : ℕ) → g < s.ticks → awaits s g ≡ true → ⊥
  -- "The feeders of each DAC share one GFM", their source.
  pub feeders : (d g h : ℕ) → d < dacs → g < s.ticks → h < s.ticks → s.feeds d g ≡ true → s.feeds d h ≡ true → s.source g ≡ s.source h
  -- "All writers share one GFM."
  pub writers : (g h : ℕ) → g < s.ticks → h < s.ticks → s.writes g ≡ true → s.writes h ≡ true → s.source g ≡ s.source h
  -- "And there is at most one reader,"
  pub readers : (g h : ℕ) → g < s.ticks → h < s.ticks → s.replacing g ≡ true → s.replacing h ≡ true → g ≡ h
  -- "with no adding generator on its sum word."
  pub adders : (w g h : ℕ) → w < quadrant_words → g < s.ticks → h < s.ticks → replaces_word s w g ≡ true → adds_to_word s w h ≡ true → ⊥

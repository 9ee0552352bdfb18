-- A change to some generators of a machine that keeps its settings (document 02, Q-12).
-- Assumes nothing.
use Rattle.std.specs.Prelude.{ℕ, ◌≤◌, ◌<◌, ◌≡◌, get_or}
use Rattle.layout.specs.Layout.{generator_at}
use Rattle.layout.specs.Machine.{Machine}
use Rattle.layout_texts.specs.declared.Text.TheVariants.{Of1978}
use Rattle.equal_orders.specs.Equal.{SameSettings}

-- Machine n is machine m but for words of generators lo to hi-1, which keep the settings: GMODE, GSUM, GFM and the DAC numbers of 0010s.
pub record Changed (lo hi : ℕ) (m n : Machine) : Type 0 where
  pub settings : SameSettings Of1978 m n
  pub below : (i : ℕ) → i < generator_at lo → get_or n i 0 ≡ get_or m i 0
  pub above : (i : ℕ) → generator_at hi ≤ i → get_or n i 0 ≡ get_or m i 0

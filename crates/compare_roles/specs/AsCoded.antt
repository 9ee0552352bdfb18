-- The run modes of a machine's generators in a run of their own, which each text fills once for all that then look at them.
-- Assumes nothing.
use Rattle.std.specs.Prelude.{◌≡◌, List, ℕ, ◌^◌, ◌<◌, get_or}
use Rattle.layout.specs.Layout.{generators}
use Rattle.layout.specs.Machine.{Machine, ticks_of, gmode_at}
use Rattle.layout.specs.Widths.{gmode_bits}
use Rattle.layout_texts.specs.Texts.{run_mode_at}
use Rattle.layout_texts.specs.declared.Text.{Text}

-- GMODE of each generator is within its 10 bits, so that a run mode fits in a byte.
pub record Within (m : Machine) : Type 0 where
  pub gmodes : (g : ℕ) → g < generators → gmode_at m g < 2 ^ gmode_bits

-- A run that has the run mode of each generator below n, of four bits.
pub record RunsBelow (text : Text) (m : Machine) (n : ℕ) (runs : List ℕ) : Type 0 where
  pub at : (g : ℕ) → g < n → get_or runs g 0 ≡ run_mode_at text m g
  pub low : (g : ℕ) → g < n → get_or runs g 0 < 16

-- Of each generator below T.
abbrev pub RunsOf : Text → Machine → List ℕ → Type 0
RunsOf text m runs = RunsBelow text m (ticks_of m) runs

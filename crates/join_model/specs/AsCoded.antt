-- A bell alone and a machine that plays it: what a pass of both keeps. It serves the proof of what is claimed of joined machines.
-- Assumes nothing.
use Rattle.std.specs.Prelude.{ℕ, ◌+◌, ◌≤◌, ◌<◌, true, ◌≢◌, ◌≡◌}
use Rattle.layout.specs.Layout.{quadrant_words, dacs}
use Rattle.layout.specs.Machine.{Machine, ticks_of, gsum_at, gfm_at, function_at}
use Rattle.layout_modes.specs.Modes.{wait, running_c, read_data, write_data, write_dac}
use Rattle.layout_texts.specs.Texts.{run_mode_at, dac_number_at}
use Rattle.layout_texts.specs.declared.Text.TheVariants.{Of1978}
use Rattle.pass_laws.specs.Good.{Good}
use Rattle.join_model.specs.Join.{uses_word, uses_dac}
use Rattle.join_model.specs.Plays.{Plays}

-- A machine that sounds by its generators alone.
pub record SelfContained (m : Machine) : Type 0 where
  pub no_reader : (g : ℕ) → g < ticks_of m → run_mode_at Of1978 m g ≢ read_data
  pub no-writer : (g : ℕ) → g < ticks_of m → run_mode_at Of1978 m g ≢ write_data
  pub inputs : (g : ℕ) → g < ticks_of m → gfm_at m g < quadrant_words
  pub inactive : (k : ℕ) → k < 128 → function_at m k ≡ 0

-- Generator h is none of a's, where these stand from a place on.
abbrev pub Other : Machine → ℕ → ℕ → Type 0
Other a at h = (g : ℕ) → g < ticks_of a → h ≢ at + g

-- Machine j has room for the generators of a from a place on; no other of its generators below T has its sum in a word or feeds a DAC that a uses;
-- and where there is a generator below that place, the one at it neither waits nor can come to wait.
pub record Stands (a j : Machine) (at : ℕ) : Type 0 where
  pub room : at + ticks_of a ≤ ticks_of j
  pub words : (h w : ℕ) → h < ticks_of j → Other a at h → w < quadrant_words → uses_word a w ≡ true → gsum_at j h ≢ w
  pub feeders : (h d : ℕ) → h < ticks_of j → Other a at h → d < dacs → uses_dac a d ≡ true → run_mode_at Of1978 j h ≡ write_dac → dac_number_at Of1978 j h ≢ d
  pub seam : 0 < at → (run_mode_at Of1978 j at ≢ wait) × (run_mode_at Of1978 j at ≢ running_c)

-- A bell a alone, and a machine j that plays it from a place on.
pub record Bell (a j : Machine) (at : ℕ) : Type 0 where
  pub alone : Good Of1978 a
  pub joined : Good Of1978 j
  pub self-contained : SelfContained a
  pub self-contained-joined : SelfContained j
  pub stands : Stands a j at
  pub plays : Plays a a 0 j at

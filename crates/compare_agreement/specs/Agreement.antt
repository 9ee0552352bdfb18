-- When two orders of the generators agree (document 01, "Two orders agree when").
-- Assumes nothing.
use Rattle.std.specs.Prelude.{ℕ, ◌+◌, ◌-◌, ◌<◌, Bool, true, ◌&&◌, map, ◌≡◌, eqb, leb}
use Rattle.layout_modes.specs.Modes.{wait, write_data, write_dac, free, adds, replaces}
use Rattle.layout.specs.Layout.{dacs, quadrant_words}
use Rattle.layout.specs.Machine.{Machine, Order, ticks_of, gsum_at}
use Rattle.layout_texts.specs.Texts.{run_mode_at, dac_number_at}
use Rattle.layout_texts.specs.declared.Text.{Text}
use Rattle.layout_texts.specs.Texts.{source_at, distance_of}
use Rattle.base_sequences.specs.Sequences.{keep, last_of, place_of, before}

-- What the four points look at: how many generators there are, how far below its lower neighbour stands, and of each generator
-- whether it waits, whether it can trigger, whether it feeds a DAC, whether it writes data, what tells apart the data that it sends,
-- whether a sum word is its own, whether it replaces and whether it adds.
pub record Settings : Type 0 where
  pub ticks : ℕ
  pub distance : ℕ
  pub waits : ℕ → Bool
  pub triggering : ℕ → Bool
  pub feeds : ℕ → ℕ → Bool
  pub writes : ℕ → Bool
  pub source : ℕ → ℕ
  pub on_word : ℕ → ℕ → Bool
  pub replacing : ℕ → Bool
  pub adding : ℕ → Bool

-- A machine's, by its text's run modes, neighbours and sources: 1001 waits; 1110 and 1101 can trigger; a DAC is fed by the 0010 generators with its number;
-- 0011 writes data; a word's generators are those with its GSUM; 0111 replaces; adding ones are those whose run mode has adding on.
abbrev pub settings_of : Text → Machine → Settings
settings_of text m =
    record {
      ticks = ticks_of m;
      distance = distance_of text;
      waits = λ g. eqb (run_mode_at text m g) wait;
      triggering = λ g. free (run_mode_at text m g);
      feeds = λ d g. eqb (run_mode_at text m g) write_dac && eqb (dac_number_at text m g) d;
      writes = λ g. eqb (run_mode_at text m g) write_data;
      source = source_at text m;
      on_word = λ w g. eqb (gsum_at m g) w;
      replacing = λ g. replaces (run_mode_at text m g);
      adding = λ g. adds (run_mode_at text m g);
    }

module _ (s : Settings) where
  -- Whether g waits and has a lower neighbour that can trigger.
  abbrev pub awaits : ℕ → Bool
  awaits g = leb s.distance g && s.waits g && s.triggering (g - s.distance)

  -- The 0111 generators of a word, and its adding ones.
  abbrev pub replaces_word : ℕ → ℕ → Bool
  replaces_word w g = s.on_word w g && s.replacing g

  abbrev pub adds_to_word : ℕ → ℕ → Bool
  adds_to_word w g = s.on_word w g && s.adding g

  -- The last 0111 of a word in an order, and its place among all 0111s.
  abbrev pub last_replacing : ℕ → Order → ℕ
  last_replacing w order = last_of (replaces_word w) order

  abbrev pub place_replacing : ℕ → Order → ℕ
  place_replacing w order = place_of (last_replacing w order) (keep s.replacing order)

  -- Whether g stands after the last 0111 of a word.
  abbrev pub after_replacing : ℕ → ℕ → Order → Bool
  after_replacing w g order = before (last_replacing w order) g order

  -- A word with a 0111 has the same last one, at the same place among all 0111s, and the same set of adding generators on that word after it.
  pub record SameWord (w : ℕ) (o₁ o₂ : Order) : Type 0 where
    pub last : last_replacing w o₁ ≡ last_replacing w o₂
    pub place : place_replacing w o₁ ≡ place_replacing w o₂
    pub adders : (g : ℕ) → g < s.ticks → adds_to_word w g ≡ true → after_replacing w g o₁ ≡ after_replacing w g o₂

  -- Two orders agree: the four points.
  pub record Agreeing (o₁ o₂ : Order) : Type 0 where
    -- Each generator that waits and whose lower neighbour can trigger stands on the same side of it in both.
    pub neighbours : (g : ℕ) → s.distance + g < s.ticks → s.waits (s.distance + g) ≡ true → s.triggering g ≡ true
        → before g (s.distance + g) o₁ ≡ before g (s.distance + g) o₂
    -- Each fed DAC is fed last through the same source.
    pub feeders : (d g : ℕ) → d < dacs → g < s.ticks → s.feeds d g ≡ true
        → s.source (last_of (s.feeds d) o₁) ≡ s.source (last_of (s.feeds d) o₂)
    -- The writing generators, in order, give the same list of sources.
    pub writers : map s.source (keep s.writes o₁) ≡ map s.source (keep s.writes o₂)
    -- Each word with a 0111 is the same.
    pub words : (w g : ℕ) → w < quadrant_words → g < s.ticks → replaces_word w g ≡ true → SameWord w o₁ o₂

-- Two orders of a machine's generators agree on the four points.
abbrev pub Agree : Text → Machine → Order → Order → Type 0
Agree text m o₁ o₂ = Agreeing (settings_of text m) o₁ o₂

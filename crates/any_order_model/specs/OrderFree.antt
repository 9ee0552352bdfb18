-- Whether every order of the generators leaves the same (document 02, Q-2): what is counted of the generators, and the rule by the counts.
-- Assumes nothing.
use Rattle.std.specs.Prelude.{ℕ, ◌^◌, Bool, ◌&&◌, ◌||◌, eqb, leb, ltb}
use Rattle.base_lists.specs.Lists.{all_below, count_below}
use Rattle.layout.specs.Layout.{dacs, quadrant_words}
use Rattle.layout.specs.Widths.{gfm_bits}
use Rattle.compare_agreement.specs.Agreement.{Settings, awaits, replaces_word, adds_to_word}

-- How many generators wait and have a lower neighbour that can trigger; how many feed each DAC from each source; how many write data from each source;
-- how many are 0111s, in all and on each sum word; how many add to each sum word.
pub record Counts : Type 0 where
  pub awaiting : ℕ
  pub feeders : ℕ → ℕ → ℕ
  pub writers : ℕ → ℕ
  pub readers : ℕ
  pub readers_on : ℕ → ℕ
  pub adders_on : ℕ → ℕ

-- The counts of the generators below T.
abbrev pub counts_in : Settings → Counts
counts_in s =
    record {
      awaiting = count_below (awaits s) s.ticks;
      feeders = λ d v. count_below (λ g. s.feeds d g && eqb (s.source g) v) s.ticks;
      writers = λ v. count_below (λ g. s.writes g && eqb (s.source g) v) s.ticks;
      readers = count_below s.replacing s.ticks;
      readers_on = λ w. count_below (replaces_word s w) s.ticks;
      adders_on = λ w. count_below (adds_to_word s w) s.ticks;
    }

-- There are as many sources as GFM has values.
abbrev pub sources : ℕ
sources = 2 ^ gfm_bits

-- Those counted by source share one: at most one source has any.
unfoldable pub share_one : (ℕ → ℕ) → Bool
share_one f = leb (count_below (λ v. ltb 0 (f v)) sources) 1

-- The feeders of each DAC share one source; no sum word has a 0111 and an adding generator.
unfoldable pub feeders_share : Counts → Bool
feeders_share c = all_below (λ d. share_one (c.feeders d)) dacs

unfoldable pub words_apart : Counts → Bool
words_apart c = all_below (λ w. eqb (c.readers_on w) 0 || eqb (c.adders_on w) 0) quadrant_words

-- The rule: no waiting generator has a lower neighbour that can trigger; the feeders of each DAC share one source; all writers share one source;
-- there is at most one 0111, and no adding generator is on its word.
unfoldable pub order_free : Counts → Bool
order_free c = eqb c.awaiting 0 && feeders_share c && share_one c.writers && leb c.readers 1 && words_apart c

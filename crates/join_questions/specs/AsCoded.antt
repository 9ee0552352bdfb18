-- What a machine uses, as the code marks it: one generator at a time. Readers need only `uses_word` and `uses_dac`, to which laws join this.
-- Assumes nothing.
use Rattle.std.specs.Prelude.{ℕ, zero, suc, ◌+◌, ◌≤◌, ◌<◌, Bool, true, false, cond, not, ◌&&◌, List, eqb, get_or, set, replicate}
use Rattle.base_lists.specs.Lists.{all_below}
use Rattle.layout.specs.Layout.{generators, quadrant_words}
use Rattle.layout.specs.Machine.{Machine, Reaches, ticks_of, gsum_at, gfm_at}
use Rattle.layout_modes.specs.Modes.{write_dac}
use Rattle.layout_texts.specs.Texts.{run_mode_at, dac_number_at}
use Rattle.layout_texts.specs.declared.Text.TheVariants.{Of1978}

-- The words that a GFM can name, which the marks of the DACs follow, and how many marks there are.
abbrev pub dacs_used_at : ℕ
dacs_used_at = 128

abbrev pub marks_length : ℕ
marks_length = 144

-- A machine whose uses can be marked; one that passes questions 1 and 2 is.
pub record Usable (m : Machine) : Type 0 where
  pub reaches : Reaches m
  pub ticks : ticks_of m ≤ generators
  pub gsums : (g : ℕ) → g < generators → gsum_at m g < quadrant_words
  pub gfms : (g : ℕ) → g < generators → gfm_at m g < dacs_used_at

-- Generator g marks the words of its GSUM and GFM, and in 0010 its DAC.
unfoldable pub uses_marked : Machine → List Bool → ℕ → List Bool
uses_marked m used g =
    let words = set (set used (gsum_at m g) true) (gfm_at m g) true in
    cond (eqb (run_mode_at Of1978 m g) write_dac) (set words (dacs_used_at + dac_number_at Of1978 m g) true) words

-- So do the generators below n, from no mark on; and all below T.
unfoldable pub marked_to : Machine → ℕ → List Bool
marked_to m zero = replicate marks_length false
marked_to m (suc g) = uses_marked m (marked_to m g) g

abbrev pub marks_of : Machine → List Bool
marks_of m = marked_to m (ticks_of m)

-- None of n marks from a place on stands in both of two runs of marks.
unfoldable pub marks_apart : List Bool → List Bool → ℕ → ℕ → Bool
marks_apart a b at n = all_below (λ k. not (get_or a (at + k) false && get_or b (at + k) false)) n

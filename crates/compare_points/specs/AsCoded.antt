-- The four points as the code asks them: the tests on the traces of two orders.
-- Readers need only the points, to which laws join these. Assumes nothing.
use Rattle.std.specs.Prelude.{ℕ, zero, suc, ◌-◌, ◌<◌, ◌≤◌, Bool, true, cond, ◌&&◌, not, List, Option, None, Some, eqb, ltb, get_or, set}
use Rattle.std.specs.Bool.{beq}
use Rattle.base_lists.specs.Lists.{zeros}
use Rattle.layout.specs.Layout.{generators, quadrant_words}
use Rattle.layout.specs.Machine.{Machine, Order, gsum_at}
use Rattle.layout_texts.specs.declared.Text.{Text}
use Rattle.compare_agreement.specs.Agreement.{settings_of, awaits, adds_to_word}
use Rattle.compare_traces.specs.declared.Replaced.{Replaced}
use Rattle.compare_traces.specs.declared.Trace.{Trace}
use Rattle.compare_traces.specs.AsCoded.{trace_of}

-- Where a point fails first, if that lies below its bound.
abbrev pub where_failing : ℕ → ℕ → Option ℕ
where_failing bound place = cond (eqb place bound) None (Some place)

-- The places of the generators in two orders.
pub record Sides : Type 0 where
  pub first : List ℕ
  pub second : List ℕ

abbrev pub sides : Trace → Trace → Sides
sides t₁ t₂ = record { first = t₁.place; second = t₂.place }

abbrev pub sides_of : Text → Machine → Order → Order → Sides
sides_of text m o₁ o₂ = sides (trace_of text m o₁) (trace_of text m o₂)

-- Whether g stands before h.
abbrev pub earlier : List ℕ → ℕ → ℕ → Bool
earlier place g h = ltb (get_or place g 0) (get_or place h 0)

-- Whether g and h stand in the same sequence in both orders.
abbrev pub side_by : Sides → ℕ → ℕ → Bool
side_by s g h = beq (earlier s.first g h) (earlier s.second g h)

-- The first point at generator g.
unfoldable pub neighbour_by : Text → Machine → Sides → ℕ → Bool
neighbour_by text m sides g =
    let s = settings_of text m in
    cond (awaits s g) (side_by sides (g - s.distance) g) true

-- Whether two arrays hold the same number.
unfoldable pub same_at : List ℕ → List ℕ → ℕ → Bool
same_at held₁ held₂ i = eqb (get_or held₁ i 0) (get_or held₂ i 0)

-- An array of one more than a generator's number, or 0, for each word.
pub record LastsWithin (last : List ℕ) : Type 0 where
  pub within : (w : ℕ) → w < quadrant_words → get_or last w 0 ≤ generators

-- Whether g, if it adds to word w, stands on the same side of the word's last 0111 in both orders.
unfoldable pub adder_by : Text → Machine → Sides → List ℕ → ℕ → ℕ → Bool
adder_by text m sides last w g =
    cond (adds_to_word (settings_of text m) w g && not (eqb (get_or last w 0) 0)) (side_by sides (get_or last w 0 - 1) g) true

-- A mark for the word of g, if g adds to it on another side; and the marks of all generators below n.
abbrev pub word_marked_by : Text → Machine → Sides → List ℕ → ℕ → List ℕ → List ℕ
word_marked_by text m sides last g marks = cond (adder_by text m sides last (gsum_at m g) g) marks (set marks (gsum_at m g) 1)

unfoldable pub marks_of : Text → Machine → Sides → List ℕ → ℕ → List ℕ
marks_of text m sides last zero = zeros quadrant_words
marks_of text m sides last (suc n) = word_marked_by text m sides last n (marks_of text m sides last n)

-- The fourth point at word w.
unfoldable pub word_by : Replaced → Replaced → List ℕ → ℕ → Bool
word_by r₁ r₂ marks w = same_at r₁.last r₂.last w && same_at r₁.among r₂.among w && eqb (get_or marks w 0) 0

-- The fourth point by what two traces hold is the fourth point: the traces hold the last 0111 of each word, and a word's mark tells
-- whether an adding generator stands on another side of it.
-- Assumes nothing.
use mathlib.Core.Path.{◌≡◌, refl, sym, ap, ◌∙◌}
use mathlib.Core.Bool.{Bool, true, false, cond, ◌&&◌, and-true, and-false, beq}
use mathlib.Core.List.{List}
use Prim.Native.Nat.{ℕ, zero, suc, ◌+◌, ◌-◌, ◌≤◌, ◌<◌}
use native.Mathlib.Omega.{arith}
use native.Mathlib.Numerals.{add-one}
use borrow.Author.Tests.{eqb-true, eqb-false}
use lib.Dec.{eqb, eqb-suc-zero, eqb-suc-suc}
use lib.ListN.{length, get_or, set, length-set}
use lib.Seq.{get_or-set_same, get_or-set_other}
use Rattle.base_lists.specs.Lists.{all_below, zeros}
use Rattle.base_lists.proofs.Below.{below-same, below-from}
use Rattle.base_lists.proofs.Zeros.{zeros-length, zeros-at}
use Rattle.layout.specs.Layout.{generators, quadrant_words}
use Rattle.layout.specs.Machine.{Machine, Order, ticks_of, gsum_at}
use Rattle.layout_texts.specs.declared.Text.{Text}
use Rattle.base_sequences.specs.Sequences.{some, last_of, before, first_failing, latest}
use Rattle.base_sequences.proofs.Orders.{some-orders, last-below}
use Rattle.base_sequences.proofs.Loops.{failing-same}
use Rattle.pass_order.specs.Order.{IsOrder}
use Rattle.compare_agreement.specs.Agreement.{settings_of, replaces_word, adds_to_word, last_replacing, place_replacing, after_replacing}
use Rattle.compare_agreement.specs.Points.{word_same, word_point}
use Rattle.compare_traces.specs.declared.Replaced.{Replaced}
use Rattle.compare_traces.specs.declared.Trace.{Trace}
use Rattle.compare_traces.specs.AsCoded.{Traceable, trace_of}
use Rattle.compare_traces.proofs.Holds.{Holds, trace-holds}
use Rattle.compare_points.specs.AsCoded.{Sides, sides, sides_of, side_by, same_at, adder_by, LastsWithin, word_marked_by, marks_of, word_by}
use Rattle.compare_points.proofs.Neighbours.{sides-held}

-- The marks of the generators below n: a word has none just where each of them stands on the same side.
record MarksHold (text : Text) (m : Machine) (sides : Sides) (last marks : List ℕ) (n : ℕ) : Type 0 where
  pub marks-length : length marks ≡ quadrant_words
  pub mark : (w : ℕ) → w < quadrant_words → eqb (get_or marks w 0) 0 ≡ all_below (adder_by text m sides last w) n

module _ (text : Text) (m : Machine) (sides : Sides) (last : List ℕ) where
  marks-none : MarksHold text m sides last (zeros quadrant_words) 0
  marks-none = record { marks-length = zeros-length quadrant_words; mark = λ w h. rw (zeros-at quadrant_words w h) }

  -- A generator says nothing of another word.
  elsewhere : (w g : ℕ) → eqb (gsum_at m g) w ≡ false → adder_by text m sides last w g ≡ true
  unfolding adder_by
  elsewhere w g e = rw e

  marks-next : (marks : List ℕ) (g : ℕ) → gsum_at m g < quadrant_words → MarksHold text m sides last marks g
      → MarksHold text m sides last (word_marked_by text m sides last g marks) (suc g)
  marks-next marks g low k =
      record { marks-length = long (adder_by text m sides last (gsum_at m g) g); mark = λ w h. by_word w h (eqb (gsum_at m g) w) refl }
    where
      long : (b : Bool) → length (cond b marks (set marks (gsum_at m g) 1)) ≡ quadrant_words
      long true = k.marks-length
      long false = length-set marks (gsum_at m g) 1 ∙ k.marks-length

      here : (b : Bool) → eqb (get_or (cond b marks (set marks (gsum_at m g) 1)) (gsum_at m g) 0) 0 ≡ (b && all_below (adder_by text m sides last (gsum_at m g)) g)
      here true = k.mark (gsum_at m g) low
      here false = rw (get_or-set_same marks (gsum_at m g) 1 0 (rw k.marks-length low))

      other : (w : ℕ) → eqb (gsum_at m g) w ≡ false → (b : Bool) → get_or (cond b marks (set marks (gsum_at m g) 1)) w 0 ≡ get_or marks w 0
      other w q true = refl
      other w q false = get_or-set_other marks (gsum_at m g) w 1 0 (λ x. eqb-false (gsum_at m g) w q (sym x))

      by_word : (w : ℕ) → w < quadrant_words → (c : Bool) → eqb (gsum_at m g) w ≡ c
          → eqb (get_or (word_marked_by text m sides last g marks) w 0) 0 ≡ (adder_by text m sides last w g && all_below (adder_by text m sides last w) g)
      by_word w h true q = rw (← (eqb-true (gsum_at m g) w q)) (here (adder_by text m sides last (gsum_at m g) g))
      by_word w h false q = rw (elsewhere w g q, other w q (adder_by text m sides last (gsum_at m g) g)) (k.mark w h)

  marks-hold : Traceable m → (n : ℕ) → n ≤ generators → MarksHold text m sides last (marks_of text m sides last n) n
  unfolding marks_of
  marks-hold ready zero h = marks-none
  marks-hold ready (suc n) h = marks-next (marks_of text m sides last n) n (ready.gsums n (omega arith)) (marks-hold ready n (omega arith))

  -- The loop: none yet, and one generator more.
  pub marked-none : zeros quadrant_words ≡ marks_of text m sides last 0
  unfolding marks_of
  marked-none = refl

  pub marked_next : (g : ℕ) {marks marked : List ℕ} → marks ≡ marks_of text m sides last g → marked ≡ word_marked_by text m sides last g marks
      → marked ≡ marks_of text m sides last (g + 1)
  unfolding marks_of
  marked_next g e f = rw (add-one g, f, e)

-- The bound on what is held of the last 0111s.
pub lasts-within : (text : Text) (m : Machine) (order : Order) → Traceable m → IsOrder (ticks_of m) order → {t : Trace} → t ≡ trace_of text m order → LastsWithin t.replaced.last
unfolding latest
lasts-within text m order ready o e =
    rw e (record { within = λ w h. rw ((trace-holds text m order ready o).last w h) (within w (some (replaces_word (settings_of text m) w) order) refl) })
  where
    within : (w : ℕ) (b : Bool) → some (replaces_word (settings_of text m) w) order ≡ b → cond b (suc (last_of (replaces_word (settings_of text m) w) order)) 0 ≤ generators
    within w true e = omega (arith, last-below (ticks_of m) order o.once o.below (replaces_word (settings_of text m) w) e, ready.ticks)
    within w false e = omega arith

module _ (text : Text) (m : Machine) (o₁ o₂ : Order) (ready : Traceable m) (ordered : IsOrder (ticks_of m) o₁ × IsOrder (ticks_of m) o₂) where
  -- The two traces, the places that they hold, and the marks.
  abbrev first : Replaced
  first = (trace_of text m o₁).replaced

  abbrev second : Replaced
  second = (trace_of text m o₂).replaced

  abbrev both : Sides
  both = sides_of text m o₁ o₂

  abbrev marks : List ℕ
  marks = marks_of text m (sides_of text m o₁ o₂) (trace_of text m o₁).replaced.last (ticks_of m)

  held₁ : Holds text m o₁ (trace_of text m o₁)
  held₁ = trace-holds text m o₁ ready ordered.0

  held₂ : Holds text m o₂ (trace_of text m o₂)
  held₂ = trace-holds text m o₂ ready ordered.1

  mark : (w : ℕ) → w < quadrant_words → eqb (get_or marks w 0) 0 ≡ all_below (adder_by text m both first.last w) (ticks_of m)
  mark = (marks-hold text m both first.last ready (ticks_of m) ready.ticks).mark

  some-two : (w : ℕ) → some (replaces_word (settings_of text m) w) o₂ ≡ some (replaces_word (settings_of text m) w) o₁
  some-two w =
      sym (some-orders (ticks_of m) o₁ o₂ ordered.0.once ordered.1.once ordered.0.below ordered.1.below (replaces_word (settings_of text m) w))

  -- A word with a 0111.
  module _ (w : ℕ) (h : w < quadrant_words) (e : some (replaces_word (settings_of text m) w) o₁ ≡ true) where
    pub first-last : get_or (trace_of text m o₁).replaced.last w 0 ≡ suc (last_replacing (settings_of text m) w o₁)
    unfolding latest
    first-last = held₁.last w h ∙ rw e

    pub second-last : get_or (trace_of text m o₂).replaced.last w 0 ≡ suc (last_replacing (settings_of text m) w o₂)
    unfolding latest
    second-last = held₂.last w h ∙ rw (some-two w, e)

    pub first-among : get_or (trace_of text m o₁).replaced.among w 0 ≡ place_replacing (settings_of text m) w o₁
    unfolding latest
    first-among = held₁.among w h ∙ rw e

    pub second-among : get_or (trace_of text m o₂).replaced.among w 0 ≡ place_replacing (settings_of text m) w o₂
    unfolding latest
    second-among = held₂.among w h ∙ rw (some-two w, e)

    adder-held : (g : ℕ) → g < ticks_of m
        → adder_by text m both first.last w g
        ≡ cond (adds_to_word (settings_of text m) w g) (beq (before (last_replacing (settings_of text m) w o₁) g o₁) (before (last_replacing (settings_of text m) w o₁) g o₂)) true
    unfolding adder_by
    adder-held g l =
        let p : suc (last_replacing (settings_of text m) w o₁) - 1 ≡ last_replacing (settings_of text m) w o₁ = omega arith in
        rw (first-last, eqb-suc-zero (last_replacing (settings_of text m) w o₁), p, and-true (adds_to_word (settings_of text m) w g), on_sides) refl
      where
        on_sides : side_by both (last_replacing (settings_of text m) w o₁) g
            ≡ beq (before (last_replacing (settings_of text m) w o₁) g o₁) (before (last_replacing (settings_of text m) w o₁) g o₂)
        on_sides =
            sides-held text m o₁ o₂ ready ordered (last_replacing (settings_of text m) w o₁) g
            (last-below (ticks_of m) o₁ ordered.0.once ordered.0.below (replaces_word (settings_of text m) w) e) l

    adder-agrees : last_replacing (settings_of text m) w o₁ ≡ last_replacing (settings_of text m) w o₂ → (g : ℕ) → g < ticks_of m
        → adder_by text m both first.last w g
        ≡ cond (adds_to_word (settings_of text m) w g) (beq (after_replacing (settings_of text m) w g o₁) (after_replacing (settings_of text m) w g o₂)) true
    adder-agrees q g l =
        adder-held g l
        ∙ ap (λ (x : ℕ). cond (adds_to_word (settings_of text m) w g) (beq (before (last_replacing (settings_of text m) w o₁) g o₁) (before x g o₂)) true) q

    word-there : word_by first second marks w ≡ word_same (settings_of text m) o₁ o₂ w
    unfolding word_by same_at
    word-there =
        rw (e, first-last, second-last, first-among, second-among, mark w h, eqb-suc-suc (last_replacing (settings_of text m) w o₁) (last_replacing (settings_of text m) w o₂))
        (go (eqb (last_replacing (settings_of text m) w o₁) (last_replacing (settings_of text m) w o₂)) refl
        (eqb (place_replacing (settings_of text m) w o₁) (place_replacing (settings_of text m) w o₂)))
      where
        go : (a : Bool) → eqb (last_replacing (settings_of text m) w o₁) (last_replacing (settings_of text m) w o₂) ≡ a → (b : Bool)
            → ((a && b) && all_below (adder_by text m both first.last w) (ticks_of m))
            ≡ ((a && b)
            && all_below
            (λ g. cond (adds_to_word (settings_of text m) w g) (beq (after_replacing (settings_of text m) w g o₁) (after_replacing (settings_of text m) w g o₂)) true)
            (ticks_of m))
        go true q b =
            ap (λ (v : Bool). (true && b) && v)
            (below-same (adder_by text m both first.last w)
            (λ g. cond (adds_to_word (settings_of text m) w g) (beq (after_replacing (settings_of text m) w g o₁) (after_replacing (settings_of text m) w g o₂)) true)
            (ticks_of m) (adder-agrees (eqb-true (last_replacing (settings_of text m) w o₁) (last_replacing (settings_of text m) w o₂) q)))
        go false q b = refl

  -- A word without one.
  module _ (w : ℕ) (h : w < quadrant_words) (e : some (replaces_word (settings_of text m) w) o₁ ≡ false) where
    nothing : (order : Order) (t : Trace) → some (replaces_word (settings_of text m) w) order ≡ false → Holds text m order t
        → (get_or t.replaced.last w 0 ≡ 0) × (get_or t.replaced.among w 0 ≡ 0)
    unfolding latest
    nothing order t n r = (r.last w h ∙ rw n, r.among w h ∙ rw n)

    none-held : (g : ℕ) → g < ticks_of m → adder_by text m both first.last w g ≡ true
    unfolding adder_by
    none-held g l = rw ((nothing o₁ (trace_of text m o₁) e held₁).0, and-false (adds_to_word (settings_of text m) w g))

    word_none : word_by first second marks w ≡ word_same (settings_of text m) o₁ o₂ w
    unfolding word_by same_at
    word_none =
        let a = nothing o₁ (trace_of text m o₁) e held₁ in
        let b = nothing o₂ (trace_of text m o₂) (some-two w ∙ e) held₂ in
        rw (e, a.0, a.1, b.0, b.1, mark w h) (below-from (adder_by text m both first.last w) (ticks_of m) none-held)

  word_held : (w : ℕ) → w < quadrant_words → word_by first second marks w ≡ word_same (settings_of text m) o₁ o₂ w
  word_held w h = go (some (replaces_word (settings_of text m) w) o₁) refl
    where
      go : (b : Bool) → some (replaces_word (settings_of text m) w) o₁ ≡ b → word_by first second marks w ≡ word_same (settings_of text m) o₁ o₂ w
      go true e = word-there w h e
      go false e = word_none w h e

  pub words-held : {t₁ t₂ : Trace} → t₁ ≡ trace_of text m o₁ → t₂ ≡ trace_of text m o₂ → {marked : List ℕ}
      → marked ≡ marks_of text m (sides t₁ t₂) t₁.replaced.last (ticks_of m)
      → first_failing (word_by t₁.replaced t₂.replaced marked) quadrant_words ≡ word_point (settings_of text m) o₁ o₂
  unfolding word_point
  words-held e₁ e₂ em =
      rw (em, e₁, e₂) (failing-same (word_by first second marks) (word_same (settings_of text m) o₁ o₂) quadrant_words word_held)

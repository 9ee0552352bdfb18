-- A pass that is let through is what its generators leave and what follows on that: so its end tells what they left, and is told by it.
-- Assumes nothing.
use mathlib.Core.Path.{◌≡◌, refl, sym, ap, ◌∙◌}
use mathlib.Core.Logic.{◌≢◌}
use mathlib.Core.Bool.{true, false}
use mathlib.Core.List.{[], ◌∷◌}
use Prim.Native.Nat.{ℕ, ◌+◌, ◌/◌, ◌≤◌, ◌<◌}
use native.Mathlib.Omega.{arith}
use borrow.Author.Tests.{ne_eqb}
use lib.Dec.{lit<}
use lib.ListN.{length, get_or}
use Rattle.layout.specs.Layout.{machine_length, memory_words, generator_at, modifier_at, dac_at, quadrant_at, GMODE, MMODE}
use Rattle.layout.specs.Machine.{Machine, Order, Items, Places, Reaches, ticks_of}
use Rattle.layout_texts.specs.declared.Text.{Text}
use Rattle.layout_texts.specs.declared.Text.TheVariants.{Of1978, Old}
use Rattle.base_lists.specs.Lists.{all_below, zeros}
use Rattle.base_lists.proofs.Below.{below-from}
use Rattle.base_lists.proofs.Zeros.{zeros-length, zeros-at}
use Rattle.delay_questions.specs.Questions.{memory_good, invokes, good_line, lines_good, apart, named_once}
use Rattle.delay_questions.proofs.Memory.{good-from}
use Rattle.delay_questions.proofs.Lines.{none-invoked}
use Rattle.base_questions.specs.Questions.{asked}
use Rattle.machine.proofs.ValidMachine.{reaches}
use Rattle.layout_modes.specs.Modes.{read_data, write_data}
use Rattle.pass_order.specs.Order.{question5, question6, in_mode}
use Rattle.pass_sums.specs.Sums.{generator_last, sums_of}
use Rattle.pass_sums.proofs.Blocks.{outside-before, outside-after}
use Rattle.pass_sums.proofs.Memory.{Quadrants, sums-quadrants}
use Rattle.pass_model.specs.Generators.{Generators, generators_of, Taken, begun, taken_by}
use Rattle.pass_model.specs.Pass.{unit_questions, Call, by, written_data, generators_taken, finished, ran, refused, pass_refusal, pass_of}
use Rattle.pass_model.specs.Modifiers.{Held}
use Rattle.pass_model.proofs.Asked.{past_memory}
use Rattle.pass_model.proofs.Delays.{off-below}
use Rattle.pass_laws.specs.Good.{Good}
use Rattle.pass_laws.proofs.Completing.{completed-word, completed-last}
use Rattle.pass_laws.proofs.Frames.{steps-length, steps-quadrants}
use Rattle.pass_laws.proofs.Passing.{good-passes, begun-words, begun-sums, let_through}
use Rattle.equal_endings.specs.AsCoded.{taken_in, SameTaken}
use Rattle.equal_witnesses.specs.AsCoded.{SameHeard}
use Rattle.equal_orders.specs.ButMarks.{SameButMarks}

-- An order passes questions 5 and 6.
abbrev pub OrderPasses : ℕ → Order → Type 0
OrderPasses t order = asked (question5 t order ∷ question6 t order ∷ []) ≡ 0

-- A pass that is let through.
pub pass-let : (text : Text) (n : Machine) (order : Order) (call : Call) → pass_refusal text n (by order call) ≡ 0
    → pass_of text n (by order call) ≡ finished text n (by order call) (taken_in (generators_of text) n call.items call.places order)
unfolding ran generators_taken
pass-let text n order call e = let_through text n (by order call) e

-- Delay memory of zeros passes question 10.
pub zeros-good : memory_good (zeros memory_words) ≡ true
zeros-good = good-from (zeros memory_words) (zeros-length memory_words) (λ i h. rw (zeros-at memory_words i (rw (zeros-length memory_words) at h)) (lit< tt))

-- Where every modifier is inactive, no delay unit is invoked: what a text asks of them is answered yes.
units-pass : (text : Text) (n : Machine) → ticks_of n ≤ 256 → ((k : ℕ) → k < 128 → get_or n (modifier_at k + MMODE) 0 ≡ 0) → asked (unit_questions text n) ≡ 0
unfolding asked lines_good named_once apart
units-pass Of1978 n few inactive = rw (lines, named)
  where
    none : (k : ℕ) → k < ticks_of n / 2 → invokes n k ≡ false
    none k h = rw (inactive k (omega arith))

    lines : all_below (good_line n) (ticks_of n / 2) ≡ true
    lines = below-from (good_line n) (ticks_of n / 2) (λ k h. none-invoked n k (none k h))

    named : all_below (λ k. all_below (λ j. apart n j k) k) (ticks_of n / 2) ≡ true
    named =
        below-from (λ k. all_below (λ j. apart n j k) k) (ticks_of n / 2)
        (λ k h. below-from (λ j. apart n j k) k (λ j l. rw (none j (omega arith))))
units-pass Old n few inactive = refl

-- A pass by an order from a good machine with every modifier inactive, with a call that brings items, places and delay memory that pass 7, 8 and 10.
pub inactive-let : (text : Text) (n : Machine) → Good text n → ticks_of n ≤ 256 → ((k : ℕ) → k < 128 → get_or n (modifier_at k + MMODE) 0 ≡ 0)
    → (order : Order) (call : Call) → OrderPasses (ticks_of n) order → in_mode text n read_data ≤ length call.items → in_mode text n write_data ≤ length call.places
    → memory_good call.memory ≡ true → pass_refusal text n (by order call) ≡ 0
inactive-let text n good few inactive order call p reads writes memory =
    past_memory text n (by order call) (good-passes text n good) p reads writes memory ∙ units-pass text n few inactive

-- Two passes that are refused alike answer and leave the same.
pub refused_end : (text : Text) (n : Machine) (call : Call) (o₁ o₂ : Order) (k : ℕ) → pass_refusal text n (by o₁ call) ≡ k → pass_refusal text n (by o₂ call) ≡ k → k ≢ 0
    → SameButMarks (pass_of text n (by o₁ call)) (pass_of text n (by o₂ call))
unfolding pass_of refused
refused_end text n call o₁ o₂ k e₁ e₂ h = rw (e₁, e₂, ne_eqb k 0 h)

module _ (text : Text) (n : Machine) (call : Call) (o₁ o₂ : Order) (t u : Taken) where
  -- Passes whose generators leave the same answer and leave the same but for the marks.
  pub same_end : SameTaken t u → SameButMarks (finished text n (by o₁ call) t) (finished text n (by o₂ call) u)
  unfolding finished
  same_end s = rw (s.words, s.sums, s.places, s.reads, s.writes)

-- What the generators leave has a machine's words and four quadrants.
record Whole (t : Taken) : Type 0 where
  words : Reaches t.words
  quadrants : Quadrants t.sums

taken-whole : (of : Generators) (n : Machine) → length n ≡ machine_length → (items : Items) (places : Places) (order : Order)
    → Whole (taken_in of n items places order)
unfolding taken_by
taken-whole of n whole items places order =
    let s = begun n (sums_of n) places in
    record {
      words = reaches _ (steps-length of items order s ∙ rw (begun-words n (sums_of n) places) whole);
      quadrants = steps-quadrants of items order s (rw (begun-sums n (sums_of n) places) (sums-quadrants n (reaches n whole)));
    }

-- The words that they leave with the call's delay memory.
abbrev held_after : Call → Taken → Held
held_after call t = record { words = t.words; memory = call.memory }

-- The end of a pass shows each GMODE, the DAC words, and generator-this as the generators left them.
module _ (text : Text) (n : Machine) (call : Call) (few : ticks_of n ≤ 256) (t : Taken) (w : Whole t) where
  shown-mode : (g : ℕ) → g < 256 → get_or (finished text n call t).machine (generator_at g + GMODE) 0 ≡ get_or t.words (generator_at g + GMODE) 0
  unfolding finished
  shown-mode g h =
      completed-word text (ticks_of n) (held_after call t) t.sums w.quadrants (generator_at g + GMODE) (record { not_at = λ a j b c z. omega arith; units = off-below (generator_at g + GMODE) (omega arith) })
      (outside-before (generator_at g + GMODE) 3840 256 (omega arith)) (λ z. omega arith)

  shown-dac : (d : ℕ) → d < 16 → get_or (finished text n call t).machine (dac_at d) 0 ≡ get_or t.words (dac_at d) 0
  unfolding finished
  shown-dac d h =
      completed-word text (ticks_of n) (held_after call t) t.sums w.quadrants (dac_at d) (record { not_at = λ a j b c z. omega (arith, few); units = off-below (dac_at d) (omega arith) })
      (outside-after (dac_at d) 3840 256 (omega arith)) (λ z. omega arith)

  shown-sum : (i : ℕ) → i < 64 → get_or (finished text n call t).machine (quadrant_at generator_last + i) 0 ≡ get_or (get_or t.sums 0 []) i 0
  unfolding finished
  shown-sum i h = completed-last text (ticks_of n) (held_after call t) t.sums w.quadrants w.words i h

-- So passes that end with the same machine and written data are the same as far as orders can be told apart.
pub same-heard : (text : Text) (of : Generators) (n : Machine) → length n ≡ machine_length → ticks_of n ≤ 256 → (call : Call) (o₁ o₂ : Order)
    → (finished text n (by o₁ call) (taken_in of n call.items call.places o₁)).machine ≡ (finished text n (by o₂ call) (taken_in of n call.items call.places o₂)).machine
    → written_data (finished text n (by o₁ call) (taken_in of n call.items call.places o₁)) ≡ written_data (finished text n (by o₂ call) (taken_in of n call.items call.places o₂))
    → SameHeard (taken_in of n call.items call.places o₁) (taken_in of n call.items call.places o₂)
unfolding finished
same-heard text of n whole few call o₁ o₂ machine written =
    let t = taken_in of n call.items call.places o₁ in
    let u = taken_in of n call.items call.places o₂ in
    let wt = taken-whole of n whole call.items call.places o₁ in
    let wu = taken-whole of n whole call.items call.places o₂ in
    let word : (i : ℕ) → get_or (finished text n (by o₁ call) t).machine i 0 ≡ get_or (finished text n (by o₂ call) u).machine i 0
    = λ i. ap (λ (x : Machine). get_or x i 0) machine in
    record {
      modes = λ g h. sym (shown-mode text n (by o₁ call) few t wt g h) ∙ word (generator_at g + GMODE) ∙ shown-mode text n (by o₂ call) few u wu g h;
      dacs = λ d h. sym (shown-dac text n (by o₁ call) few t wt d h) ∙ word (dac_at d) ∙ shown-dac text n (by o₂ call) few u wu d h;
      sums = λ i h. sym (shown-sum text n (by o₁ call) few t wt i h) ∙ word (quadrant_at generator_last + i) ∙ shown-sum text n (by o₂ call) few u wu i h;
      written = written;
    }

-- A pass by number of a machine that sounds by its generators alone is not refused, and it leaves what its generators leave: nothing else touches them, the DACs and generator-last.
-- Assumes nothing.
use mathlib.Core.Path.{◌≡◌, refl, ap, ◌∙◌}
use mathlib.Core.Bool.{Bool, true, false, cond}
use mathlib.Core.Logic.{◌≢◌}
use mathlib.Core.List.{[], ◌∷◌}
use Prim.Native.Nat.{ℕ, zero, suc, ◌+◌, ◌/◌, ◌≤◌, ◌<◌}
use native.Mathlib.Omega.{arith}
use borrow.Author.Tests.{ne_eqb}
use lib.Dec.{eqb}
use lib.ListN.{get_or}
use Rattle.base_lists.specs.Lists.{all_below, count_below}
use Rattle.base_lists.proofs.Below.{below-from}
use Rattle.layout.specs.Layout.{quadrant_at, dac_at}
use Rattle.layout.specs.Machine.{Machine, Memory, Reaches, ticks_of}
use Rattle.layout_texts.specs.Texts.{run_mode_at}
use Rattle.layout_texts.specs.declared.Text.TheVariants.{Of1978}
use Rattle.layout_modes.specs.Modes.{read_data, write_data}
use Rattle.machine.proofs.ValidMachine.{reaches, valid-controls}
use Rattle.base_questions.specs.Questions.{asked}
use Rattle.delay_questions.specs.Questions.{memory_good, invokes, good_line, lines_good, apart, named_once, question11, question12}
use Rattle.delay_questions.proofs.Lines.{none-invoked}
use Rattle.pass_order.specs.Order.{in_mode}
use Rattle.pass_order.proofs.Entries.{passes-order}
use Rattle.base_sequences.specs.Sequences.{by_number}
use Rattle.pass_sums.specs.Sums.{generator_this, generator_last, sums_of}
use Rattle.pass_sums.proofs.Blocks.{outside-before, outside-after}
use Rattle.pass_sums.proofs.Memory.{Quadrants, sums-quadrants}
use Rattle.pass_model.specs.Generators.{generators_of, begun}
use Rattle.pass_model.specs.Pass.{Call, Outcome, pass_refusal, pass_of, completed}
use Rattle.pass_model.proofs.Asked.{past_memory}
use Rattle.pass_model.proofs.Delays.{off-below}
use Rattle.pass_laws.specs.Good.{Good}
use Rattle.pass_laws.specs.Passes.{call_of, no_data}
use Rattle.pass_laws.proofs.Completing.{completed-word, completed-last, completed-this}
use Rattle.pass_laws.proofs.Frames.{steps-length, steps-quadrants}
use Rattle.pass_laws.proofs.Orders.{by-number-order}
use Rattle.pass_laws.proofs.Passing.{good-passes, begun-words, begun-sums, let_through, generators_done, held_then, ran-machine}
use Rattle.join_model.specs.AsCoded.{SelfContained}

-- A pass by number with nothing to read and no place to write, and what it leaves of the machine.
abbrev pub number_call : Machine → Memory → Call
number_call m memory = call_of (by_number (ticks_of m)) memory no_data

abbrev pub one_pass : Machine → Memory → Machine
one_pass m memory = (pass_of Of1978 m (number_call m memory)).machine

none_below : (p : ℕ → Bool) (n : ℕ) → ((k : ℕ) → k < n → p k ≡ false) → count_below p n ≡ 0
unfolding count_below
none_below p zero f = refl
none_below p (suc n) f = let e : ◌≡◌ {A = ℕ} (cond (p n) 1 0) 0 = rw (f n (omega arith)) in omega (arith, e, none_below p n (λ k h. f k (omega arith)))

module _ (m : Machine) (good : Good Of1978 m) (own : SelfContained m) (memory : Memory) (memory-good : memory_good memory ≡ true) where
  few : ticks_of m ≤ 256
  few = (valid-controls Of1978 m good.is-valid).t_high

  abbrev call : Call
  call = number_call m memory

  none_in : (r : ℕ) → ((g : ℕ) → g < ticks_of m → run_mode_at Of1978 m g ≢ r) → in_mode Of1978 m r ≤ 0
  unfolding in_mode
  none_in r f = omega (arith, none_below (λ g. eqb (run_mode_at Of1978 m g) r) (ticks_of m) (λ g h. ne_eqb (run_mode_at Of1978 m g) r (f g h)))

  units : asked (question11 m ∷ question12 m ∷ []) ≡ 0
  unfolding asked lines_good named_once apart
  units = rw (lines, named)
    where
      none : (k : ℕ) → k < ticks_of m / 2 → invokes m k ≡ false
      none k h = rw (own.inactive k (omega (arith, few)))

      lines : all_below (good_line m) (ticks_of m / 2) ≡ true
      lines = below-from (good_line m) (ticks_of m / 2) (λ k h. none-invoked m k (none k h))

      named : all_below (λ k. all_below (λ j. apart m j k) k) (ticks_of m / 2) ≡ true
      named =
          below-from (λ k. all_below (λ j. apart m j k) k) (ticks_of m / 2)
          (λ k h. below-from (λ j. apart m j k) k (λ j l. rw (none j (omega arith))))

  pub own_runs : pass_refusal Of1978 m call ≡ 0
  own_runs =
      past_memory Of1978 m call (good-passes Of1978 m good) (passes-order (ticks_of m) (by_number (ticks_of m)) (by-number-order (ticks_of m)))
      (none_in read_data own.no_reader) (none_in write_data own.no-writer) memory-good
      ∙ units

  quadrants : Quadrants (generators_done Of1978 m call).sums
  quadrants =
      steps-quadrants (generators_of Of1978) [] call.order (begun m (sums_of m) []) (rw (begun-sums m (sums_of m) []) (sums-quadrants m (reaches m good.whole)))

  reach : Reaches (generators_done Of1978 m call).words
  reach = reaches _ (steps-length (generators_of Of1978) [] call.order (begun m (sums_of m) []) ∙ rw (begun-words m (sums_of m) []) good.whole)

  left_at : (i : ℕ) → get_or (one_pass m memory) i 0 ≡ get_or (completed Of1978 (ticks_of m) (held_then Of1978 m call) (generators_done Of1978 m call).sums).words i 0
  left_at i = ap (λ (r : Outcome). get_or r.machine i 0) (let_through Of1978 m call own_runs) ∙ ap (λ (x : Machine). get_or x i 0) (ran-machine Of1978 m call)

  pub own-generator : (i : ℕ) → i < 2816 → get_or (one_pass m memory) i 0 ≡ get_or (generators_done Of1978 m call).words i 0
  own-generator i h =
      left_at i
      ∙ (completed-word Of1978 (ticks_of m) (held_then Of1978 m call) (generators_done Of1978 m call).sums quadrants i
      (record { not_at = λ k j a b z. omega arith; units = off-below i (omega arith) }) (outside-before i 3840 256 (omega arith)) (λ z. omega arith))

  pub own-dac : (d : ℕ) → d < 16 → get_or (one_pass m memory) (dac_at d) 0 ≡ get_or (generators_done Of1978 m call).words (dac_at d) 0
  own-dac d h =
      left_at (dac_at d)
      ∙ (completed-word Of1978 (ticks_of m) (held_then Of1978 m call) (generators_done Of1978 m call).sums quadrants (dac_at d)
      (record { not_at = λ k j a b z. omega (arith, few); units = off-below (dac_at d) (omega arith) }) (outside-after (dac_at d) 3840 256 (omega arith)) (λ z. omega arith))

  pub own-last : (w : ℕ) → w < 64 → get_or (one_pass m memory) (quadrant_at generator_last + w) 0 ≡ get_or (get_or (generators_done Of1978 m call).sums generator_this []) w 0
  own-last w h = left_at (quadrant_at generator_last + w) ∙ completed-last Of1978 (ticks_of m) (held_then Of1978 m call) (generators_done Of1978 m call).sums quadrants reach w h

  pub own-this : (w : ℕ) → w < 64 → get_or (one_pass m memory) (quadrant_at generator_this + w) 0 ≡ 0
  own-this w h = left_at (quadrant_at generator_this + w) ∙ completed-this Of1978 (ticks_of m) (held_then Of1978 m call) (generators_done Of1978 m call).sums quadrants reach w h

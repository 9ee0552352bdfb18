-- Words that come back over passes in sequence: the turns of a delay unit in its modifier's passes are turns one after the other, and nothing but them writes its slot.
-- Assumes nothing.
use mathlib.Core.Path.{◌≡◌, refl, sym, ap, ◌∙◌}
use mathlib.Core.Logic.{◌≢◌, ◌⊎◌, ⊎_elim}
use mathlib.Core.Bool.{true, false}
use Prim.Native.Nat.{ℕ, zero, suc, ◌+◌, ◌/◌, ◌≤◌, ◌<◌}
use native.Mathlib.Omega.{arith}
use native.Mathlib.Numerals.{add-one}
use borrow.Author.Tests.{eq-eqb, ltb-true, leb-true}
use lib.Dec.{leb, ltb}
use lib.ListN.{length, get_or, set, length-set}
use lib.Seq.{get_or-set_other}
use Rattle.base_lists.proofs.Below.{and_first, and_second}
use Rattle.base_lists.proofs.Choices.{of-cond, of_test}
use Rattle.layout.specs.Layout.{memory_words}
use Rattle.layout.specs.Machine.{Machine, Memory, ticks_of}
use Rattle.layout_texts.specs.declared.Text.TheVariants.{Of1978}
use Rattle.layout_codes.specs.BuiltCodes.{line, table, rounded_table}
use Rattle.delay.specs.declared.Delay.{Delay}
use Rattle.delay.specs.Delay.{due, slot, address, delay_turn_of}
use Rattle.delay.specs.AsCoded.{Turns, OnlyTurnsWrite}
use Rattle.delay.proofs.Turn.{p-kept, line-memory}
use Rattle.delay.proofs.Returns.{line-returns, table-returns}
use Rattle.delay_questions.specs.Questions.{delay_of, fits}
use Rattle.delay_questions.proofs.Lines.{line-runs}
use Rattle.pass_model.specs.Pass.{Call, pass_of}
use Rattle.pass_delay_laws.specs.InPasses.{l0_at, l1_at, after, puts_word, slot_of, memory_at, InvokesUnit, RunsUnchanged, NothingElseWrites}
use Rattle.pass_delay_laws.proofs.Stages.{from-to}
use Rattle.pass_delay_laws.proofs.OnePass.{line-good, memory-whole, memory-after, l0-after, unit-after}

-- Delay memory from turn to turn.
module _ (m : Machine) (call : Call) where
  pub memory-length : (n : ℕ) → length (memory_at m call n) ≡ length call.memory
  unfolding memory_at
  memory-length zero = refl
  memory-length (suc n) =
      of-cond (λ (l : Memory). length l ≡ length call.memory) (puts_word m n) (length-set (memory_at m call n) (slot_of m n) (l1_at (after m call) n) ∙ memory-length n) (memory-length n)

  place-step : (place n : ℕ) → (puts_word m n ≡ true → slot_of m n ≢ place) → get_or (memory_at m call (suc n)) place 0 ≡ get_or (memory_at m call n) place 0
  unfolding memory_at
  place-step place n other =
      of_test (λ (l : Memory). get_or l place 0 ≡ get_or (memory_at m call n) place 0) (puts_word m n)
      (λ e. get_or-set_other (memory_at m call n) (slot_of m n) place (l1_at (after m call) n) 0 (λ q. other e (sym q))) (λ e. refl)

  -- A place into which none of modifiers j to n-1 puts a word.
  pub place-stays : (place j n : ℕ) → j ≤ n → ((i : ℕ) → j ≤ i → i < n → puts_word m i ≡ true → slot_of m i ≢ place)
      → get_or (memory_at m call n) place 0 ≡ get_or (memory_at m call j) place 0
  place-stays place j n l other =
      from-to (λ i. get_or (memory_at m call i) place 0 ≡ get_or (memory_at m call j) place 0) j n l refl (λ i g c ih. place-step place i (λ e. other i g c e) ∙ ih)

  pub memory-none : memory_at m call 0 ≡ call.memory
  unfolding memory_at
  memory-none = refl

  pub memory-put : (k : ℕ) → puts_word m k ≡ true → memory_at m call (suc k) ≡ set (memory_at m call k) (slot_of m k) (l1_at (after m call) k)
  unfolding memory_at
  memory-put k e = rw e

  pub memory-stays : (n : ℕ) → ((k : ℕ) → k < n → puts_word m k ≡ false) → memory_at m call n ≡ call.memory
  unfolding memory_at
  memory-stays zero none = refl
  memory-stays (suc n) none = rw (none n (omega arith)) (memory-stays n (λ k l. none k (omega arith)))

-- One pass in which modifier k invokes unit u.
module _ (k u : ℕ) (m : Machine) (call : Call) (i : InvokesUnit k u m call) where
  l0-due : l0_at (after m call) k ≡ due (delay_of m u)
  l0-due = l0-after m call i.through k i.below i.invoked ∙ rw (i.named, i.acting)

  unit-turns : delay_of (after m call) u ≡ (delay_turn_of (delay_of m u) (memory_at m call k) (l1_at (after m call) k)).unit
  unit-turns = rw i.named at (unit-after m call i.through k i.below i.invoked (rw i.named i.acting))

  module _ (p : (delay_of m u).p ≡ line) where
    puts : puts_word m k ≡ true
    puts = rw (i.invoked, i.named, i.acting, eq-eqb (delay_of m u).p line p)

    -- Question 11 has it that the line fits.
    line-fits : fits (delay_of m u) ≡ true
    line-fits =
        let n = i.named in
        rw n at (sym (line-runs m k i.invoked (rw n p) (rw n i.acting)) ∙ line-good m call i.through k i.below)

    y-low : (delay_of m u).y ≤ (delay_of m u).z
    y-low = leb-true (delay_of m u).y (delay_of m u).z (and_second (ltb ((delay_of m u).x + (delay_of m u).z) memory_words) (leb (delay_of m u).y (delay_of m u).z) line-fits)

    slot-inside : slot (delay_of m u) < length (memory_at m call k)
    slot-inside =
        let x = ltb-true ((delay_of m u).x + (delay_of m u).z) memory_words (and_first (ltb ((delay_of m u).x + (delay_of m u).z) memory_words) (leb (delay_of m u).y (delay_of m u).z) line-fits) in
        omega (arith, x, y-low, memory-length m call k, memory-whole m call i.through)

    -- The word is put into the slot, and stays there to the end of the pass where no modifier above k puts one.
    slot-put : memory_at m call (suc k) ≡ (delay_turn_of (delay_of m u) (memory_at m call k) (l1_at (after m call) k)).memory
    slot-put = memory-put m call k puts ∙ rw (i.named, line-memory (delay_of m u) (memory_at m call k) (l1_at (after m call) k) p)

    slot-left : (place : ℕ) → ((j : ℕ) → k < j → j < ticks_of m / 2 → puts_word m j ≡ true → slot_of m j ≢ place)
        → get_or (pass_of Of1978 m call).memory place 0 ≡ get_or (delay_turn_of (delay_of m u) (memory_at m call k) (l1_at (after m call) k)).memory place 0
    slot-left place other =
        ap (λ (l : Memory). get_or l place 0) (memory-after m call i.through)
        ∙ place-stays m call place (suc k) (ticks_of m / 2) i.below (λ j g l e. other j g l e)
        ∙ ap (λ (l : Memory). get_or l place 0) slot-put

module _ (machine : ℕ → Machine) (call : ℕ → Call) (k u : ℕ) where
  -- The unit, delay memory and the word at each turn.
  abbrev unit : ℕ → Delay
  unit i = delay_of (machine i) u

  abbrev memory : ℕ → Memory
  memory i = memory_at (machine i) (call i) k

  abbrev word : ℕ → ℕ
  word i = l1_at (after (machine i) (call i)) k

  module _ (n : ℕ) (r : RunsUnchanged n k u machine call) where
    turns : Turns n unit memory word
    turns = record { unchanged = λ i l. r.unchanged i l ∙ unit-turns k u (machine i) (call i) (r.taken i (omega arith)) }

    line_stays : (unit 0).p ≡ line → (i : ℕ) → i ≤ n → (unit i).p ≡ line
    line_stays p i l =
        from-to (λ j. (unit j).p ≡ line) 0 i (omega arith) p
        (λ j g c ih. rw (← (add-one j)) (ap (λ (d : Delay). d.p) (turns.unchanged j (omega arith)) ∙ p-kept (unit j) (memory j) (word j) ∙ ih))

    only-turns : (place j : ℕ) → (unit 0).p ≡ line → j ≤ n → NothingElseWrites place j k machine call → OnlyTurnsWrite place j unit memory word
    only-turns place j p l w =
        record {
          unwritten = λ i c.
              place-stays (machine (i + 1)) (call (i + 1)) place 0 k (omega arith) (λ a g b e. w.below i a c b e)
              ∙ ap (λ (x : Memory). get_or x place 0) (memory-none (machine (i + 1)) (call (i + 1)))
              ∙ w.between i c
              ∙ slot-left k u (machine i) (call i) (r.taken i (omega arith)) (line_stays p i (omega arith)) place (λ a g b e. w.above i a c g b e);
        }

  pub line-comes-back : (unit 0).p ≡ line → RunsUnchanged ((unit 0).z + 3) k u machine call → NothingElseWrites (slot (unit 0)) ((unit 0).z + 1) k machine call
      → l0_at (after (machine ((unit 0).z + 3)) (call ((unit 0).z + 3))) k ≡ word 0
  line-comes-back p r w =
      let n = (unit 0).z + 3 in
      l0-due k u (machine n) (call n) (r.taken n (omega arith))
      ∙ line-returns unit memory word p (y-low k u (machine 0) (call 0) (r.taken 0 (omega arith)) p) (slot-inside k u (machine 0) (call 0) (r.taken 0 (omega arith)) p)
      (turns n r) (only-turns n r (slot (unit 0)) ((unit 0).z + 1) p (omega arith) w)

  pub table-comes-back : ((unit 0).p ≡ table) ⊎ ((unit 0).p ≡ rounded_table) → RunsUnchanged 3 k u machine call
      → l0_at (after (machine 3) (call 3)) k ≡ get_or (memory 0) (address (unit 0) (word 0)) 0
  table-comes-back p r =
      l0-due k u (machine 3) (call 3) (r.taken 3 (omega arith)) ∙ table-returns unit memory word no_line (turns 3 r)
    where
      no_line : (unit 0).p ≢ line
      no_line q = ⊎_elim (λ (e : (unit 0).p ≡ table). omega (arith, e, q)) (λ (e : (unit 0).p ≡ rounded_table). omega (arith, e, q)) p

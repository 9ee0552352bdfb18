-- What the modifiers, their delay units and the end of a pass leave as it was, and that they keep a machine valid.
-- Assumes nothing.
use mathlib.Core.Path.{◌≡◌, refl, ◌∙◌, ap}
use mathlib.Core.Logic.{◌≢◌}
use mathlib.Core.Bool.{Bool, true, false}
use mathlib.Core.List.{List, []}
use Prim.Native.Nat.{ℕ, zero, suc, ◌+◌, ◌/◌, ◌%◌, ◌^◌, ◌≤◌, ◌<◌}
use native.Mathlib.Omega.{arith}
use native.Mathlib.Nat.{mod-lt}
use borrow.Author.Tests.{eqb-true, eqb-false}
use lib.Dec.{eqb, lit≤, lit<}
use lib.ListN.{length, get_or, set, drop, length-set}
use lib.Pow.{pow_pos}
use lib.Seq.{get_or-set_same, get_or-set_other}
use Rattle.layout.specs.Layout.{modifier_at, quadrant_at, counter_at, delay_at, delay_y}
use Rattle.layout.specs.Machine.{Machine, Sums, Reaches}
use Rattle.layout.specs.Widths.{counter_bits}
use Rattle.layout_texts.specs.declared.Text.{Text}
use Rattle.layout.proofs.Reach.{same-reach}
use Rattle.machine.specs.Questions.{valid}
use Rattle.pass_sums.specs.Sums.{generator_this, generator_last, modifier_this, closed}
use Rattle.pass_sums.proofs.Blocks.{Outside, outside-after}
use Rattle.pass_sums.proofs.Memory.{Quadrants}
use Rattle.pass_sums.proofs.Closing.{closed-length, closed-outside, closed-generator-this, closed-generator-last}
use Rattle.modifier.specs.declared.Modifier.{Modifier}
use Rattle.modifier.specs.Modifier.{stored}
use Rattle.modifier_delay.specs.Invoke.{unit_of}
use Rattle.delay.specs.Delay.{delay_turn_of}
use Rattle.delay.proofs.Low.{WordsLow, loaded-ranged, turn-ranged}
use Rattle.delay_questions.specs.Questions.{delay_of}
use Rattle.pass_model.specs.Modifiers.{early_view, late_view, turn_seen, modifier_of, Held, delayed, modify, modified, modified_by}
use Rattle.pass_model.specs.Pass.{counted, completed}
use Rattle.pass_model.proofs.Delays.{words-by, y_of, z_of}
use Rattle.pass_model.proofs.Modifiers.{Elsewhere, turn-seen-low, words-length, memory-length, memory-low, words-kept, words-between, units-within, this-length, this-low}
use Rattle.pass_laws.proofs.ValidPuts.{valid-modifier-put, valid-delay-put, valid-counted, valid-closed}

-- A delay unit's turn keeps a machine valid.
delayed-valid : (text : Text) (t : ℕ) (h : Held) (u : Modifier) (w : ℕ) → WordsLow h.memory → valid text h.words ≡ true → valid text (delayed text t h u w).words ≡ true
delayed-valid text t h u w low e =
    let d = delay_of h.words (unit_of u) in
    words-by text t h u w (λ m. valid text m ≡ true) e
    (valid-delay-put text h.words e (unit_of u) (mod-lt u.mrm (pow_pos 5)) (delay_turn_of d h.memory w).unit
    (turn-ranged d h.memory w (loaded-ranged (drop (delay_at (unit_of u)) h.words)) low))

-- The modifiers keep a machine valid.
modified-valid : (text : Text) (t : ℕ) (h : Held) (s : Sums) (n : ℕ) → n ≤ 128 → WordsLow h.memory → valid text h.words ≡ true → valid text (modified_by text t h s n).held.words ≡ true
unfolding modified_by modified modify
modified-valid text t h s zero b low e = e
modified-valid text t h s (suc n) b low e =
    let v = modified text t h s n in
    let early = early_view (get_or s modifier_this []) n v.writes in
    let late = late_view (get_or s modifier_this []) n v.writes in
    let u = modifier_of v.held.words n in
    let turn = turn_seen text t v.held.words s early late u in
    delayed-valid text t (record { words = stored v.held.words (modifier_at n) turn.unit; memory = v.held.memory }) u turn.unit.l1 (memory-low text t h s n low)
    (valid-modifier-put text v.held.words (modified-valid text t h s n (omega arith) low e) n (omega arith) turn.unit (turn-seen-low text t s early late v.held.words n).ranged)

module _ (text : Text) (t : ℕ) (h : Held) (s : Sums) where
  -- The machine's words and sum memory after them.
  abbrev words_after : Machine
  words_after = (modified_by text t h s (t / 2)).held.words

  abbrev sums_after : Sums
  sums_after = set s modifier_this (modified_by text t h s (t / 2)).this

  pub completed-length : length (completed text t h s).words ≡ length h.words
  unfolding completed counted
  completed-length =
      length-set (closed words_after sums_after) counter_at ((get_or (closed words_after sums_after) counter_at 0 + 1) % 2 ^ counter_bits)
      ∙ closed-length words_after sums_after
      ∙ words-length text t h s (t / 2)

  -- Delay memory keeps its length and its width.
  pub completed-memory-length : length (completed text t h s).memory ≡ length h.memory
  unfolding completed
  completed-memory-length = memory-length text t h s (t / 2)

  pub completed-memory-low : WordsLow h.memory → WordsLow (completed text t h s).memory
  unfolding completed
  completed-memory-low low = memory-low text t h s (t / 2) low

  module _ (k : Quadrants s) where
    this-after : get_or sums_after modifier_this [] ≡ (modified_by text t h s (t / 2)).this
    this-after = get_or-set_same s 2 (modified_by text t h s (t / 2)).this [] (omega (arith, k.four))

    other_after : (q : ℕ) → q ≢ 2 → get_or sums_after q [] ≡ get_or s q []
    other_after q b = get_or-set_other s 2 q (modified_by text t h s (t / 2)).this [] b

    after-quadrants : Quadrants sums_after
    after-quadrants =
        record {
          four = length-set s 2 (modified_by text t h s (t / 2)).this ∙ k.four;
          each = λ q b. by_number q b (eqb q 2) refl;
        }
      where
        by_number : (q : ℕ) → q < 4 → (b : Bool) → eqb q 2 ≡ b → length (get_or sums_after q []) ≡ 64
        by_number q b true e = rw (eqb-true q 2 e) (ap length this-after ∙ this-length text t h s (t / 2) ∙ k.each 2 (omega arith))
        by_number q b false e = ap length (other_after q (eqb-false q 2 e)) ∙ k.each q b

    -- A word that is neither in sum memory nor the counter is as the modifiers leave it.
    pub completed-by : (i : ℕ) → Outside i 3840 256 → i ≢ counter_at → get_or (completed text t h s).words i 0 ≡ get_or words_after i 0
    unfolding completed counted
    completed-by i o c =
        get_or-set_other (closed words_after sums_after) counter_at i ((get_or (closed words_after sums_after) counter_at 0 + 1) % 2 ^ counter_bits) 0 c
        ∙ closed-outside words_after sums_after after-quadrants i o

    -- A word that is no M0, M1, L0 or L1 of a modifier that is taken and that no delay unit's turn changes, not in sum memory and not the counter.
    pub completed-word : (i : ℕ) → Elsewhere i (t / 2) → Outside i 3840 256 → i ≢ counter_at → get_or (completed text t h s).words i 0 ≡ get_or h.words i 0
    completed-word i a o c = completed-by i o c ∙ words-kept text t h s (t / 2) i a

    -- Y of a delay unit stays at most Z.
    pub completed-within : t ≤ 256 → (u : ℕ) → u < 32 → delay_at 32 ≤ length h.words → y_of h.words u ≤ z_of h.words u → y_of (completed text t h s).words u ≤ z_of h.words u
    completed-within b u l r e =
        rw (completed-by (delay_at u + delay_y) (outside-after (delay_at u + delay_y) 3840 256 (omega arith)) (λ q. omega arith))
        (units-within text t h s (t / 2) u (omega arith) l r e)

    -- The counter.
    pub completed-counter : t ≤ 256 → counter_at < length h.words → get_or (completed text t h s).words counter_at 0 ≡ (get_or h.words counter_at 0 + 1) % 2 ^ counter_bits
    unfolding completed counted
    completed-counter b l =
        get_or-set_same (closed words_after sums_after) counter_at ((get_or (closed words_after sums_after) counter_at 0 + 1) % 2 ^ counter_bits) 0
        (rw (closed-length words_after sums_after, words-length text t h s (t / 2)) l)
        ∙ ap (λ (x : ℕ). (x + 1) % 2 ^ counter_bits)
        (closed-outside words_after sums_after after-quadrants counter_at (outside-after counter_at 3840 256 (lit≤ tt))
        ∙ words-between text t h s (t / 2) counter_at (omega arith) (lit≤ tt) (lit< tt))

    -- A word of generator-last is what stood in generator-this.
    pub completed-last : Reaches h.words → (w : ℕ) → w < 64 → get_or (completed text t h s).words (quadrant_at generator_last + w) 0 ≡ get_or (get_or s generator_this []) w 0
    unfolding completed counted
    completed-last r w b =
        get_or-set_other (closed words_after sums_after) counter_at (quadrant_at generator_last + w) ((get_or (closed words_after sums_after) counter_at 0 + 1) % 2 ^ counter_bits) 0 (λ z. omega arith)
        ∙ closed-generator-last words_after sums_after after-quadrants (same-reach (words-length text t h s (t / 2)) r) w b
        ∙ ap (λ (l : List ℕ). get_or l w 0) (other_after generator_this (λ z. omega arith))

    -- One of generator-this is cleared.
    pub completed-this : Reaches h.words → (w : ℕ) → w < 64 → get_or (completed text t h s).words (quadrant_at generator_this + w) 0 ≡ 0
    unfolding completed counted
    completed-this r w b =
        get_or-set_other (closed words_after sums_after) counter_at (quadrant_at generator_this + w) ((get_or (closed words_after sums_after) counter_at 0 + 1) % 2 ^ counter_bits) 0 (λ z. omega arith)
        ∙ closed-generator-this words_after sums_after after-quadrants (same-reach (words-length text t h s (t / 2)) r) w b

    -- They keep a machine valid.
    pub completed-valid : t ≤ 256 → WordsLow h.memory → valid text h.words ≡ true → Reaches h.words
        → ((i : ℕ) → i < 64 → get_or (get_or s generator_this []) i 0 < 2 ^ 20) → ((i : ℕ) → i < 64 → get_or (get_or s modifier_this []) i 0 < 2 ^ 20)
        → valid text (completed text t h s).words ≡ true
    unfolding completed
    completed-valid b low e r low₀ low₂ =
        valid-counted text (closed words_after sums_after)
        (valid-closed text words_after sums_after (modified-valid text t h s (t / 2) (omega arith) low e) (same-reach (words-length text t h s (t / 2)) r) after-quadrants
        (λ i l. rw (other_after 0 (λ q. omega arith)) (low₀ i l))
        (λ i l. rw this-after (this-low text t h s (t / 2) i (low₂ i l))))

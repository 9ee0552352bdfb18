-- What a pass that is let through does to delay units and delay memory, said of the machine before and after it.
-- Assumes nothing.
use mathlib.Core.Path.{◌≡◌, refl, sym, ap, ◌∙◌}
use mathlib.Core.Logic.{◌≢◌}
use mathlib.Core.Bool.{Bool, true, false, cond}
use mathlib.Core.List.{List, []}
use Prim.Native.Nat.{ℕ, zero, suc, ◌+◌, ◌/◌, ◌≤◌, ◌<◌}
use native.Mathlib.Omega.{arith}
use borrow.Author.Tests.{eqb-false}
use lib.Dec.{eqb}
use lib.ListN.{length, get_or}
use Rattle.base_lists.proofs.Below.{below_at}
use Rattle.layout.specs.Layout.{modifier_at, delay_at, counter_at, L0, L1, MIN}
use Rattle.layout.specs.Machine.{Machine, Sums, ticks_of}
use Rattle.layout_texts.specs.declared.Text.TheVariants.{Of1978}
use Rattle.base_questions.specs.Questions.{asked}
use Rattle.machine.proofs.ValidMachine.{reaches}
use Rattle.modifier.specs.Modifier.{loaded}
use Rattle.modifier_delay.specs.Invoke.{temp0}
use Rattle.pass_sums.specs.Sums.{generator_last, modifier_last, sums_of}
use Rattle.pass_sums.proofs.Blocks.{Outside, outside-before, outside-after}
use Rattle.pass_sums.proofs.Memory.{sums-quadrants}
use Rattle.delay.specs.Delay.{due, delay_turn_of}
use Rattle.delay_questions.specs.Questions.{invokes, named_by, delay_of, good_line, lines_good, named_once}
use Rattle.delay_questions.proofs.Memory.{good_length, good-words}
use Rattle.pass_model.specs.Generators.{generators_of, State, begun}
use Rattle.pass_model.specs.Modifiers.{seen, modifier_of, Held}
use Rattle.pass_model.specs.Pass.{unit_questions, Call, Outcome, completed, pass_refusal, pass_of}
use Rattle.pass_model.proofs.Asked.{Answered, passes}
use Rattle.pass_model.proofs.Puts.{at_width}
use Rattle.pass_laws.proofs.Frames.{steps-length, steps-middle, steps-beyond, steps-quadrant, steps-quadrants}
use Rattle.pass_laws.proofs.TextTurns.{sixteen}
use Rattle.pass_laws.proofs.Passing.{Admitted, generators_done, held_then, begun-words, begun-sums, admitted, let_through, pass-number, ran-machine, ran-memory}
use Rattle.pass_laws.proofs.Completing.{completed-by}
use Rattle.pass_delay_laws.specs.InPasses.{l0_at, l1_at, min_at, after, acts, memory_at}
use Rattle.pass_delay_laws.proofs.Units.{same-unit}
use Rattle.pass_delay_laws.proofs.Stages.{held_at, none-taken, viewed}
use Rattle.pass_delay_laws.proofs.StagesOf.{Begins, unit-rests, l1-left, l0-given, l1-given, unit-turned, memory-put}

-- Questions 11 and 12 as they are answered.
units-good : (m : Machine) → asked (unit_questions Of1978 m) ≡ 0 → (lines_good m ≡ true) × (named_once m ≡ true)
unfolding asked
units-good m e = go (lines_good m) (named_once m) refl refl e
  where
    go : (a b : Bool) → lines_good m ≡ a → named_once m ≡ b → ◌≡◌ {A = ℕ} (cond a (cond b 0 12) 11) 0 → (lines_good m ≡ true) × (named_once m ≡ true)
    go true true ea eb q = (ea, eb)
    go true false ea eb q = absurd (omega arith)
    go false b ea eb q = absurd (omega arith)

-- MIN as it is loaded.
min-is : (m : Machine) (k : ℕ) → min_at m k < 128 → (modifier_of m k).min ≡ min_at m k
unfolding modifier_of loaded
min-is m k l = at_width m (modifier_at k) MIN 8 (omega arith)

-- What MIN names in generator-last or modifier-last is told by these quadrants.
last-seen : (s t : Sums) (view other : List ℕ) (address : ℕ) → address < 128 → get_or s generator_last [] ≡ get_or t generator_last [] → get_or s modifier_last [] ≡ get_or t modifier_last []
    → seen s view address ≡ seen t other address
unfolding seen
last-seen s t view other address l e f = rw (e, f) (go (eqb (address / 64) 0) (eqb (address / 64) 1) refl refl _ _ _ _)
  where
    go : (a b : Bool) → eqb (address / 64) 0 ≡ a → eqb (address / 64) 1 ≡ b → (x y v w : ℕ) → cond a x (cond b y v) ≡ cond a x (cond b y w)
    go true b p q x y v w = refl
    go false true p q x y v w = refl
    go false false p q x y v w = absurd (omega (arith, eqb-false (address / 64) 0 p, eqb-false (address / 64) 1 q))

module _ (m : Machine) (call : Call) (e : (pass_of Of1978 m call).number ≡ 0) where
  refusal : pass_refusal Of1978 m call ≡ 0
  refusal = sym (pass-number Of1978 m call) ∙ e

  allowed : Admitted Of1978 m call.order
  allowed = admitted Of1978 m call refusal

  answered : Answered Of1978 m call
  answered = passes Of1978 m call refusal

  -- Question 11 of modifier k, and the length of delay memory.
  pub line-good : (k : ℕ) → k < ticks_of m / 2 → good_line m k ≡ true
  unfolding lines_good
  line-good k l = below_at (good_line m) (ticks_of m / 2) (units-good m answered.units).0 k l

  pub memory-whole : length call.memory ≡ 65536
  memory-whole = good_length call.memory answered.memory

  -- The modifiers begin with what the generators leave.
  abbrev t : ℕ
  t = ticks_of m

  abbrev h : Held
  h = held_then Of1978 m call

  abbrev s : Sums
  s = (generators_done Of1978 m call).sums

  abbrev start : State
  start = begun m (sums_of m) call.places

  begins : Begins m h
  begins =
      record {
        good = allowed.good;
        few = allowed.ticks;
        once = (units-good m answered.units).1;
        long = steps-length (generators_of Of1978) call.items call.order start ∙ rw (begun-words m (sums_of m) call.places) allowed.good.whole;
        modifier = λ k r a c.
            steps-middle (generators_of Of1978) call.items call.order start allowed.below (modifier_at k + r) (omega arith) (omega arith) ∙ rw (begun-words m (sums_of m) call.places);
        unit = λ u r a c.
            steps-beyond (generators_of Of1978) call.items call.order start allowed.below (sixteen Of1978) (delay_at u + r) (omega arith) ∙ rw (begun-words m (sums_of m) call.places);
        low = good-words call.memory answered.memory;
      }

  -- What they leave stays to the end of the pass.
  word-left : (i : ℕ) → Outside i 3840 256 → i ≢ counter_at → get_or (after m call) i 0 ≡ get_or (held_at t h s (t / 2)).words i 0
  word-left i o c =
      ap (λ (r : Outcome). get_or r.machine i 0) (let_through Of1978 m call refusal)
      ∙ rw (ran-machine Of1978 m call)
      (completed-by Of1978 t h s
      (steps-quadrants (generators_of Of1978) call.items call.order start (rw (begun-sums m (sums_of m) call.places) (sums-quadrants m (reaches m allowed.good.whole)))) i o c)

  latch-left : (k r : ℕ) → k < t / 2 → r < 8 → get_or (after m call) (modifier_at k + r) 0 ≡ get_or (held_at t h s (t / 2)).words (modifier_at k + r) 0
  latch-left k r l c = word-left (modifier_at k + r) (outside-before (modifier_at k + r) 3840 256 (omega (arith, allowed.ticks))) (λ q. omega (arith, allowed.ticks))

  unit_left : (u r : ℕ) → u < 32 → r < 7 → get_or (after m call) (delay_at u + r) 0 ≡ get_or (held_at t h s (t / 2)).words (delay_at u + r) 0
  unit_left u r l c = word-left (delay_at u + r) (outside-after (delay_at u + r) 3840 256 (omega arith)) (λ q. omega arith)

  completed-memory : (completed Of1978 t h s).memory ≡ (held_at t h s (t / 2)).memory
  unfolding completed
  completed-memory = refl

  -- A unit that no modifier names, or that acts as inactive, keeps its seven words.
  pub rests : (u : ℕ) → u < 32 → ((k : ℕ) → k < t / 2 → invokes m k ≡ true → named_by m k ≡ u → acts m u ≡ false)
      → (r : ℕ) → r < 7 → get_or (after m call) (delay_at u + r) 0 ≡ get_or m (delay_at u + r) 0
  rests u l idle r c = unit_left u r l c ∙ unit-rests m h s begins u l (t / 2) (omega arith) idle r c

  -- Delay memory at each turn, and at the end.
  memory-at : (n : ℕ) → n ≤ t / 2 → memory_at m call n ≡ (held_at t h s n).memory
  unfolding memory_at
  memory-at zero l = ap (λ (x : Held). x.memory) (sym (none-taken t h s))
  memory-at (suc n) l =
      let l1 : l1_at (after m call) n ≡ get_or (held_at t h s (t / 2)).words (modifier_at n + L1) 0 = latch-left n L1 l (omega arith) in
      rw (l1, memory-at n (omega arith)) (sym (memory-put m h s begins n l))

  pub memory-after : (pass_of Of1978 m call).memory ≡ memory_at m call (t / 2)
  memory-after =
      ap (λ (r : Outcome). r.memory) (let_through Of1978 m call refusal) ∙ ran-memory Of1978 m call ∙ completed-memory ∙ sym (memory-at (t / 2) (omega arith))

  -- Modifier k and the unit that it invokes: what it is given, and what the unit's turn leaves.
  module _ (k : ℕ) (l : k < t / 2) (i : invokes m k ≡ true) where
    pub l0-after : l0_at (after m call) k ≡ cond (acts m (named_by m k)) (due (delay_of m (named_by m k))) 0
    l0-after = latch-left k L0 l (omega arith) ∙ l0-given m h s begins k l i

    pub unit-after : acts m (named_by m k) ≡ true
        → delay_of (after m call) (named_by m k) ≡ (delay_turn_of (delay_of m (named_by m k)) (memory_at m call k) (l1_at (after m call) k)).unit
    unit-after a =
        same-unit (held_at t h s (t / 2)).words (after m call) (named_by m k) (λ r c. unit_left (named_by m k) r (omega arith) c)
        ∙ unit-turned m h s begins k l i a
        ∙ rw (memory-at k (omega arith), latch-left k L1 l (omega arith) ∙ l1-left m h s begins k l)

    -- What the unit is sent.
    pub word-sent : min_at m k < 128 → l1_at (after m call) k ≡ temp0 (modifier_of m k) (seen (sums_of m) [] (min_at m k)) (l0_at (after m call) k)
    word-sent low =
        latch-left k L1 l (omega arith)
        ∙ l1-given m h s begins k l i
        ∙ rw (min-is m k low, last-seen s (sums_of m) (viewed t h s k) [] (min_at m k) low (quadrant generator_last (λ q. omega arith)) (quadrant modifier_last (λ q. omega arith)), ← (latch-left k L0 l (omega arith)))
      where
        quadrant : (q : ℕ) → q ≢ 0 → get_or s q [] ≡ get_or (sums_of m) q []
        quadrant q n = steps-quadrant (generators_of Of1978) call.items call.order start q n ∙ rw (begun-sums m (sums_of m) call.places)

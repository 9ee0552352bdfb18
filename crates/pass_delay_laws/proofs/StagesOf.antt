-- The modifiers of a pass that is let through, each by what the machine says of it as the pass begins: since no two name one unit, a unit is as it began until its modifier's turn, and as that
-- turn left it from then on.
-- Assumes nothing.
use mathlib.Core.Path.{◌≡◌, refl, sym, ap, ◌∙◌}
use mathlib.Core.Logic.{◌≢◌}
use mathlib.Core.Bool.{Bool, true, false, cond, ◌&&◌, true≢false}
use Prim.Native.Nat.{ℕ, suc, ◌+◌, ◌/◌, ◌%◌, ◌^◌, ◌≤◌, ◌<◌}
use native.Mathlib.Omega.{arith}
use borrow.Author.Tests.{eq-eqb, eqb-true, eqb-false}
use lib.Dec.{eqb, lit<}
use lib.ListN.{length, get_or, set, drop}
use lib.Seq.{get_or-drop}
use Rattle.base_lists.specs.Lists.{all_below}
use Rattle.base_lists.proofs.Below.{and_first, and_second, below_at}
use Rattle.base_lists.proofs.Choices.{of_test}
use Rattle.layout.specs.Layout.{modifier_at, delay_at, L0, L1, MRM, MMODE, machine_length}
use Rattle.layout.specs.Machine.{Machine, Memory, Sums, ticks_of}
use Rattle.layout_texts.specs.declared.Text.TheVariants.{Of1978}
use Rattle.machine.proofs.ValidMachine.{valid-modifier}
use Rattle.modifier.specs.declared.Modifier.{Modifier}
use Rattle.modifier.specs.Modifier.{loaded}
use Rattle.modifier_delay.specs.Invoke.{invoking, unit_of, temp0}
use Rattle.delay.specs.declared.Delay.{Delay}
use Rattle.delay.specs.Delay.{stored, runs, due, delay_turn_of}
use Rattle.delay.proofs.Low.{WordsLow, loaded-ranged, turn-ranged}
use Rattle.delay.proofs.Turn.{x-kept, z-kept, p-kept}
use Rattle.delay_questions.specs.Questions.{invokes, named_by, delay_of, apart, named_once}
use Rattle.pass_model.specs.Modifiers.{seen, given, modifier_of, Held}
use Rattle.pass_model.proofs.Delays.{stored_other}
use Rattle.pass_model.proofs.Modifiers.{words-length, memory-low}
use Rattle.pass_laws.specs.Good.{Good}
use Rattle.pass_delay_laws.specs.InPasses.{acts, puts_word, slot_of}
use Rattle.pass_delay_laws.proofs.Units.{same-unit, same-modifier, stored-unit}
use Rattle.pass_delay_laws.proofs.Stages.{from-to, turn-puts, held_at, taken, turned, put_back, none-taken, viewed, turned-l0, turned-l1, put-length, put-kept, modifier-kept, own-l0, own-l1, memory-next, words-next}

-- Of two modifiers that invoke a delay unit each names another one.
pub other-unit : (m : Machine) → named_once m ≡ true → (j k : ℕ) → j < k → k < ticks_of m / 2 → invokes m j ≡ true → invokes m k ≡ true → named_by m j ≢ named_by m k
unfolding named_once apart
other-unit m once j k l b p q e = true≢false (sym triggered_below ∙ rw (p, q, eq-eqb (named_by m j) (named_by m k) e))
  where
    triggered_below : apart m j k ≡ true
    triggered_below = below_at (λ i. apart m i k) k (below_at (λ n. all_below (λ i. apart m i n) n) (ticks_of m / 2) once k b) j l

-- What the modifiers begin with, of machine m: its modifiers and its delay units, and a delay memory of 20 bits.
pub record Begins (m : Machine) (h : Held) : Type 0 where
  pub good : Good Of1978 m
  pub few : ticks_of m ≤ 256
  pub once : named_once m ≡ true
  pub long : length h.words ≡ machine_length
  pub modifier : (k r : ℕ) → k < 128 → r < 8 → get_or h.words (modifier_at k + r) 0 ≡ get_or m (modifier_at k + r) 0
  pub unit : (u r : ℕ) → u < 32 → r < 7 → get_or h.words (delay_at u + r) 0 ≡ get_or m (delay_at u + r) 0
  pub low : WordsLow h.memory

module _ (m : Machine) (h : Held) (s : Sums) (b : Begins m h) where
  abbrev t : ℕ
  t = ticks_of m

  abbrev words_at : ℕ → Machine
  words_at n = (held_at t h s n).words

  abbrev memory_then : ℕ → Memory
  memory_then n = (held_at t h s n).memory

  wide : (n : ℕ) → length (words_at n) ≡ 4344
  wide n = words-length Of1978 t h s n ∙ b.long

  -- A modifier is as the pass began until its turn.
  until-turn : (n k r : ℕ) → n ≤ k → k < 128 → r < 8 → get_or (words_at n) (modifier_at k + r) 0 ≡ get_or m (modifier_at k + r) 0
  until-turn n k r c l e =
      from-to (λ i. get_or (words_at i) (modifier_at k + r) 0 ≡ get_or m (modifier_at k + r) 0) 0 n (omega arith)
      (ap (λ (x : Held). get_or x.words (modifier_at k + r) 0) (none-taken t h s) ∙ b.modifier k r l e)
      (λ i g a ih. modifier-kept t h s i k r (λ q. omega arith) l e ∙ ih)

  module _ (n : ℕ) (l : n < t / 2) where
    below : n < 128
    below = omega (arith, b.few)

    taken_is : taken t h s n ≡ modifier_of m n
    taken_is = same-modifier m (words_at n) n (λ r c. until-turn n n r (omega arith) below c)

    -- It invokes a unit, and names it, as the machine says.
    pub taken-invokes : invoking (taken t h s n) ≡ invokes m n
    unfolding modifier_of loaded
    taken-invokes =
        let x = get_or m (modifier_at n + MMODE) 0 in
        let code : x % 2 ^ 9 / 2 ^ 4 % 2 ^ 5 ≡ x / 2 ^ 4 = omega (arith, (valid-modifier Of1978 m b.good.is-valid n below).mmode) in
        ap (λ (x : Modifier). invoking x) taken_is ∙ rw (get_or-drop (modifier_at n) m MMODE 0) (ap (λ (f : ℕ). eqb f 0b00111) code)

    pub taken-names : unit_of (taken t h s n) ≡ named_by m n
    unfolding modifier_of loaded
    taken-names =
        ap (λ (x : Modifier). unit_of x) taken_is ∙ rw (get_or-drop (modifier_at n) m MRM 0) (omega (arith, (valid-modifier Of1978 m b.good.is-valid n below).mrm))

    -- Writing it back leaves the units.
    put-unit : (v r : ℕ) → v < 32 → r < 7 → get_or (put_back t h s n).words (delay_at v + r) 0 ≡ get_or (words_at n) (delay_at v + r) 0
    put-unit v r a c = put-kept t h s n (delay_at v + r) (record { out = λ j k e. omega (arith, below) })

    put_same : (v : ℕ) → v < 32 → delay_of (put_back t h s n).words v ≡ delay_of (words_at n) v
    put_same v a = same-unit (words_at n) (put_back t h s n).words v (λ r c. put-unit v r a c)

    -- A unit that it doesn't name, or that acts as inactive, keeps its seven words.
    unit-step : (v r : ℕ) → v < 32 → r < 7 → (invokes m n ≡ true → named_by m n ≡ v → runs t v (delay_of (words_at n) v) ≡ false)
        → get_or (words_at (suc n)) (delay_at v + r) 0 ≡ get_or (words_at n) (delay_at v + r) 0
    unit-step v r a c rests =
        ap (λ (w : Machine). get_or w (delay_at v + r) 0) (words-next t h s n)
        ∙ of_test (λ (w : Machine). get_or w (delay_at v + r) 0 ≡ get_or (words_at n) (delay_at v + r) 0) _ (λ e. named e (eqb (unit_of (taken t h s n)) v) refl) (λ e. put-unit v r a c)
      where
        acting : Bool
        acting = invoking (taken t h s n) && runs t (unit_of (taken t h s n)) (delay_of (put_back t h s n).words (unit_of (taken t h s n)))

        after : Delay
        after = (delay_turn_of (delay_of (put_back t h s n).words (unit_of (taken t h s n))) (memory_then n) (turned t h s n).l1).unit

        named : acting ≡ true → (same : Bool) → eqb (unit_of (taken t h s n)) v ≡ same
            → get_or (stored (put_back t h s n).words (delay_at (unit_of (taken t h s n))) after) (delay_at v + r) 0 ≡ get_or (words_at n) (delay_at v + r) 0
        named e true q =
            let p : unit_of (taken t h s n) ≡ v = eqb-true (unit_of (taken t h s n)) v q in
            let runs-it : runs t v (delay_of (words_at n) v) ≡ true =
            rw (← (put_same v a), ← p) (and_second (invoking (taken t h s n)) (runs t (unit_of (taken t h s n)) (delay_of (put_back t h s n).words (unit_of (taken t h s n)))) e) in
            absurd (true≢false (sym runs-it ∙ rests (sym taken-invokes ∙ and_first (invoking (taken t h s n)) _ e) (sym taken-names ∙ p)))
        named e false q =
            let d : unit_of (taken t h s n) ≢ v = eqb-false (unit_of (taken t h s n)) v q in
            stored_other (put_back t h s n).words (delay_at (unit_of (taken t h s n))) after (delay_at v + r)
            (λ i. d (omega arith)) (λ i. d (omega arith)) (λ i. d (omega arith)) (λ i. d (omega arith))
            ∙ put-unit v r a c

  -- So over modifiers j to n-1.
  pub unit-stays : (v : ℕ) → v < 32 → (j n : ℕ) → j ≤ n → n ≤ t / 2
      → ((k : ℕ) → j ≤ k → k < n → invokes m k ≡ true → named_by m k ≡ v → runs t v (delay_of (words_at j) v) ≡ false)
      → (r : ℕ) → r < 7 → get_or (words_at n) (delay_at v + r) 0 ≡ get_or (words_at j) (delay_at v + r) 0
  unit-stays v a j n l c rests =
      from-to (λ i. (r : ℕ) → r < 7 → get_or (words_at i) (delay_at v + r) 0 ≡ get_or (words_at j) (delay_at v + r) 0) j n l (λ r e. refl)
      (λ i g k ih r e.
      unit-step i (omega arith) v r a e (λ p q. rw (same-unit (words_at j) (words_at i) v ih) (rests i g k p q)) ∙ ih r e)

  start : (v r : ℕ) → v < 32 → r < 7 → get_or (words_at 0) (delay_at v + r) 0 ≡ get_or m (delay_at v + r) 0
  start v r a c = ap (λ (x : Held). get_or x.words (delay_at v + r) 0) (none-taken t h s) ∙ b.unit v r a c

  -- A unit that no modifier below n names, or that acts as inactive.
  pub unit-rests : (v : ℕ) → v < 32 → (n : ℕ) → n ≤ t / 2 → ((k : ℕ) → k < n → invokes m k ≡ true → named_by m k ≡ v → acts m v ≡ false)
      → (r : ℕ) → r < 7 → get_or (words_at n) (delay_at v + r) 0 ≡ get_or m (delay_at v + r) 0
  unit-rests v a n c rests r e =
      unit-stays v a 0 n (omega arith) c (λ k g l p q. rw (same-unit m (words_at 0) v (λ r x. start v r a x)) (rests k l p q)) r e
      ∙ start v r a e

  -- L0 and L1 of a modifier are as its turn left them.
  latches : (k : ℕ) → k < t / 2 → (r : ℕ) → r < 8 → get_or (words_at (t / 2)) (modifier_at k + r) 0 ≡ get_or (words_at (suc k)) (modifier_at k + r) 0
  latches k l r e =
      from-to (λ i. get_or (words_at i) (modifier_at k + r) 0 ≡ get_or (words_at (suc k)) (modifier_at k + r) 0) (suc k) (t / 2) l refl
      (λ i g c ih. modifier-kept t h s i k r (λ q. omega arith) (below k l) e ∙ ih)

  module _ (k : ℕ) (l : k < t / 2) where
    pub l0-left : get_or (words_at (t / 2)) (modifier_at k + L0) 0 ≡ (turned t h s k).l0
    l0-left = latches k l L0 (lit< tt) ∙ own-l0 t h s k (below k l) (omega (arith, wide k))

    pub l1-left : get_or (words_at (t / 2)) (modifier_at k + L1) 0 ≡ (turned t h s k).l1
    l1-left = latches k l L1 (lit< tt) ∙ own-l1 t h s k (below k l) (omega (arith, wide k))

    -- The unit that it invokes.
    module _ (i : invokes m k ≡ true) where
      abbrev u : ℕ
      u = named_by m k

      low-unit : u < 32
      low-unit = omega arith

      -- As it finds it.
      found : delay_of (words_at k) u ≡ delay_of m u
      found = same-unit m (words_at k) u (unit-rests u low-unit k (omega arith) (λ j g p q. absurd (other-unit m b.once j k g l p i q)))

      put-found : delay_of (put_back t h s k).words u ≡ delay_of m u
      put-found = put_same k l u low-unit ∙ found

      -- What it gives.
      pub l0-given : get_or (words_at (t / 2)) (modifier_at k + L0) 0 ≡ cond (acts m u) (due (delay_of m u)) 0
      unfolding given
      l0-given = l0-left ∙ turned-l0 t h s k (taken-invokes k l ∙ i) ∙ rw (taken-names k l, found)

      -- What it is sent.
      pub l1-given : get_or (words_at (t / 2)) (modifier_at k + L1) 0
          ≡ temp0 (modifier_of m k) (seen s (viewed t h s k) (modifier_of m k).min) (get_or (words_at (t / 2)) (modifier_at k + L0) 0)
      l1-given = l1-left ∙ turned-l1 t h s k (taken-invokes k l ∙ i) ∙ rw (taken_is k l, l0-left)

      -- What its turn leaves of it, to the end of the pass.
      pub unit-turned : acts m u ≡ true → delay_of (words_at (t / 2)) u ≡ (delay_turn_of (delay_of m u) (memory_then k) (turned t h s k).l1).unit
      unit-turned a =
          same-unit (words_at (suc k)) (words_at (t / 2)) u
          (unit-stays u low-unit (suc k) (t / 2) l (omega arith) (λ j g c p q. absurd (other-unit m b.once k j g c i p (sym q))))
          ∙ ap (λ (w : Machine). delay_of w u) (words-next t h s k ∙ own)
          ∙ written
        where
          after : Delay
          after = (delay_turn_of (delay_of m u) (memory_then k) (turned t h s k).l1).unit

          own : cond (invoking (taken t h s k) && runs t (unit_of (taken t h s k)) (delay_of (put_back t h s k).words (unit_of (taken t h s k))))
              (stored (put_back t h s k).words (delay_at (unit_of (taken t h s k))) (delay_turn_of (delay_of (put_back t h s k).words (unit_of (taken t h s k))) (memory_then k) (turned t h s k).l1).unit) (put_back t h s k).words
              ≡ stored (put_back t h s k).words (delay_at u) after
          own = rw (taken-invokes k l, i, taken-names k l, put-found, a)

          written : delay_of (stored (put_back t h s k).words (delay_at u) after) u ≡ after
          written =
              stored-unit (put_back t h s k).words u after low-unit (omega (arith, put-length t h s k, wide k))
              (turn-ranged (delay_of m u) (memory_then k) (turned t h s k).l1 (loaded-ranged (drop (delay_at u) m)) (memory-low Of1978 t h s k b.low))
              (rw put-found (x-kept (delay_of m u) (memory_then k) (turned t h s k).l1))
              (rw put-found (z-kept (delay_of m u) (memory_then k) (turned t h s k).l1))
              (rw put-found (p-kept (delay_of m u) (memory_then k) (turned t h s k).l1))

    -- What it leaves of delay memory.
    pub memory-put : memory_then (suc k) ≡ cond (puts_word m k) (set (memory_then k) (slot_of m k) (get_or (words_at (t / 2)) (modifier_at k + L1) 0)) (memory_then k)
    memory-put = go (invokes m k) refl
      where
        go : (i : Bool) → invokes m k ≡ i → memory_then (suc k) ≡ cond (puts_word m k) (set (memory_then k) (slot_of m k) (get_or (words_at (t / 2)) (modifier_at k + L1) 0)) (memory_then k)
        go true i =
            memory-next t h s k
            ∙ rw (taken-invokes k l, taken-names k l, put-found i, l1-left)
            (turn-puts (invokes m k) (acts m (named_by m k)) (delay_of m (named_by m k)) (memory_then k) (turned t h s k).l1)
        go false i = memory-next t h s k ∙ rw (taken-invokes k l, i)

-- The modifiers of a pass one after the other: what each leaves of the machine's words and of delay memory, by its own turn and then by that of its delay unit.
-- Assumes nothing.
use mathlib.Core.Path.{◌≡◌, refl, ap, ◌∙◌}
use mathlib.Core.Logic.{◌≢◌}
use mathlib.Core.Bool.{Bool, true, false, cond, ◌&&◌, and-false}
use mathlib.Core.List.{List, []}
use Prim.Native.Nat.{ℕ, zero, suc, ◌+◌, ◌*◌, ◌≤◌, ◌<◌}
use native.Mathlib.Omega.{arith}
use borrow.Author.Tests.{eqb-true, leb-true, leb-false}
use lib.Dec.{eqb, leb}
use lib.ListN.{length, get_or, set, length-set}
use lib.Seq.{get_or-set_same, get_or-set_other}
use Rattle.layout.specs.Layout.{modifier_at, delay_at, L0, L1}
use Rattle.layout.specs.Machine.{Machine, Memory, Sums}
use Rattle.layout_texts.specs.declared.Text.TheVariants.{Of1978}
use Rattle.modifier.specs.declared.Modifier.{Modifier}
use Rattle.modifier.specs.Modifier.{stored, function_of}
use Rattle.modifier_turn.specs.Turn.{turn_of as modifier_turn, reads_late}
use Rattle.modifier_delay.specs.Invoke.{invoking, unit_of, temp0, invoke_delay}
use Rattle.layout_codes.specs.BuiltCodes.{line}
use Rattle.delay.specs.declared.Delay.{Delay}
use Rattle.delay.specs.Delay.{runs, slot, After, line_turn, table_turn, stored as stored_delay, delay_turn_of}
use Rattle.delay_questions.specs.Questions.{delay_of}
use Rattle.pass_sums.specs.Sums.{modifier_this}
use Rattle.pass_sums.proofs.Blocks.{Outside, get_d-outside}
use Rattle.pass_model.specs.Modifiers.{early_view, late_view, seen, given, second_input, turn_seen, modifier_of, Held, delayed, modify, modified, modified_by}
use Rattle.pass_model.proofs.Delays.{off-below, delayed-kept}
use Rattle.pass_model.proofs.Registers.{registers, four, put_is}

-- What holds of a number and goes from each one to the next holds from there on.
pub from-to : (Q : ℕ → Type 0) (a n : ℕ) → a ≤ n → Q a → ((j : ℕ) → a ≤ j → j < n → Q j → Q (suc j)) → Q n
from-to Q a zero l q f = let e : a ≡ 0 = omega arith in rw e at q
from-to Q a (suc n) l q f = go (leb a n) refl (λ h. from-to Q a n h q (λ j g k. f j g (omega arith)))
  where
    go : (b : Bool) → leb a n ≡ b → (a ≤ n → Q n) → Q (suc n)
    go true e ih = f n (leb-true a n e) (omega arith) (ih (leb-true a n e))
    go false e ih = let s : a ≡ suc n = omega (arith, leb-false a n e) in rw s at q

-- A part of what is chosen is chosen.
of-choice : {A B : Type 0} (f : A → B) (b : Bool) (x y : A) → f (cond b x y) ≡ cond b (f x) (f y)
of-choice f true x y = refl
of-choice f false x y = refl

-- A modifier that invokes a delay unit.
invoke-turn : (u : Modifier) (a b : ℕ) → invoking u ≡ true → modifier_turn u a b ≡ invoke_delay u a b
unfolding modifier_turn
invoke-turn u a b e = rw (eqb-true (function_of u) 0b00111 e)

-- A unit's turn on delay memory, where it is taken, is that of a line.
pub turn-puts : (i a : Bool) (d : Delay) (memory : Memory) (w : ℕ) →
    cond (i && a) (delay_turn_of d memory w).memory memory ≡ cond (i && (eqb d.p line && a)) (set memory (slot d) w) memory
unfolding delay_turn_of line_turn table_turn
turn-puts false a d memory w = refl
turn-puts true false d memory w = rw and-false
turn-puts true true d memory w = go (eqb d.p line)
  where
    go : (b : Bool) → (cond {A = After} b (line_turn d memory w) (table_turn d memory w)).memory ≡ cond (b && true) (set memory (slot d) w) memory
    go true = refl
    go false = refl

module _ (t : ℕ) (h : Held) (s : Sums) where
  -- The words and delay memory after n modifiers, and modifier n as its turn finds it.
  abbrev pub held_at : ℕ → Held
  held_at n = (modified_by Of1978 t h s n).held

  abbrev pub taken : ℕ → Modifier
  taken n = modifier_of (held_at n).words n

  -- Modifier n after its turn.
  unfoldable pub turned : ℕ → Modifier
  turned n =
      let v = modified Of1978 t h s n in
      let q = get_or s modifier_this [] in
      (turn_seen Of1978 t v.held.words s (early_view q n v.writes) (late_view q n v.writes) (modifier_of v.held.words n)).unit

  -- The words with it written back.
  abbrev pub put_back : ℕ → Held
  put_back n = record { words = stored (held_at n).words (modifier_at n) (turned n); memory = (held_at n).memory }

  pub none-taken : held_at 0 ≡ h
  unfolding modified_by modified
  none-taken = refl

  -- Its delay unit has its turn then.
  pub held_next : (n : ℕ) → held_at (suc n) ≡ delayed Of1978 t (put_back n) (taken n) (turned n).l1
  unfolding modified_by modified modify turned
  held_next n = refl

  -- A modifier that invokes a unit has what the unit gives in L0.
  pub turned-l0 : (n : ℕ) → invoking (taken n) ≡ true → (turned n).l0 ≡ given t (held_at n).words (taken n)
  unfolding turned turn_seen second_input modified_by invoke_delay
  turned-l0 n e = ap {B = ℕ} (λ x. x.unit.l0) (invoke-turn (taken n) _ _ e) ∙ rw e

  -- In L1 it has A + DM*M1, and A sees the late view.
  abbrev pub viewed : ℕ → List ℕ
  viewed n = late_view (get_or s modifier_this []) n (modified Of1978 t h s n).writes

  pub turned-l1 : (n : ℕ) → invoking (taken n) ≡ true → (turned n).l1 ≡ temp0 (taken n) (seen s (viewed n) (taken n).min) (turned n).l0
  unfolding turned turn_seen second_input modified_by invoke_delay reads_late
  turned-l1 n e =
      rw (turned-l0 n e)
      (ap {B = ℕ} (λ x. x.unit.l1) (invoke-turn (taken n) _ _ e) ∙ rw (e, eqb-true (function_of (taken n)) 0b00111 e))

  pub put-length : (n : ℕ) → length (put_back n).words ≡ length (held_at n).words
  unfolding stored
  put-length n = simp length-set

  -- The words that modifier n itself leaves alone.
  pub put-kept : (n i : ℕ) → Outside i (2816 + 8 * n) 4 → get_or (put_back n).words i 0 ≡ get_or (held_at n).words i 0
  put-kept n i o =
      ap (λ (w : Machine). get_or w i 0) (put_is (held_at n).words n (turned n))
      ∙ get_d-outside (registers (turned n)) (held_at n).words (2816 + 8 * n) i 0 (rw (four (turned n)) o)

  -- A word of another modifier.
  pub modifier-kept : (n k r : ℕ) → k ≢ n → k < 128 → r < 8 → get_or (held_at (suc n)).words (modifier_at k + r) 0 ≡ get_or (held_at n).words (modifier_at k + r) 0
  modifier-kept n k r d l b =
      ap (λ (x : Held). get_or x.words (modifier_at k + r) 0) (held_next n)
      ∙ delayed-kept Of1978 t (put_back n) (taken n) (turned n).l1 (modifier_at k + r) (off-below (modifier_at k + r) (omega arith))
      ∙ put-kept n (modifier_at k + r) (record { out = λ j c e. d (omega arith) })

  -- Its own L0 and L1.
  module _ (n : ℕ) (few : n < 128) (long : 3840 ≤ length (held_at n).words) where
    abbrev at : ℕ
    at = modifier_at n

    own : (r : ℕ) → r < 4 → get_or (held_at (suc n)).words (at + r) 0 ≡ get_or (put_back n).words (at + r) 0
    own r b =
        ap (λ (x : Held). get_or x.words (at + r) 0) (held_next n)
        ∙ delayed-kept Of1978 t (put_back n) (taken n) (turned n).l1 (at + r) (off-below (at + r) (omega arith))

    abbrev with_m1 : Machine
    with_m1 = set (set (held_at n).words at (turned n).m0) (at + 1) (turned n).m1

    pub own-l0 : get_or (held_at (suc n)).words (at + L0) 0 ≡ (turned n).l0
    unfolding stored
    own-l0 =
        own L0 (omega arith)
        ∙ get_or-set_other (set with_m1 (at + L0) (turned n).l0) (at + L1) (at + L0) (turned n).l1 0 (λ e. omega arith)
        ∙ get_or-set_same with_m1 (at + L0) (turned n).l0 0 (simp length-set (omega arith))

    pub own-l1 : get_or (held_at (suc n)).words (at + L1) 0 ≡ (turned n).l1
    unfolding stored
    own-l1 = own L1 (omega arith) ∙ get_or-set_same (set with_m1 (at + L0) (turned n).l0) (at + L1) (turned n).l1 0 (simp length-set (omega arith))

  -- What the unit's turn leaves, whether it is taken.
  module _ (n : ℕ) where
    abbrev unit : Delay
    unit = delay_of (put_back n).words (unit_of (taken n))

    abbrev acts : Bool
    acts = invoking (taken n) && runs t (unit_of (taken n)) unit

    -- Where it is.
    abbrev left : Held
    left =
        record {
          words = stored_delay (put_back n).words (delay_at (unit_of (taken n))) (delay_turn_of unit (held_at n).memory (turned n).l1).unit;
          memory = (delay_turn_of unit (held_at n).memory (turned n).l1).memory;
        }

    pub memory-next : (held_at (suc n)).memory ≡ cond acts left.memory (held_at n).memory
    unfolding delayed
    memory-next = ap (λ (x : Held). x.memory) (held_next n) ∙ of-choice (λ (x : Held). x.memory) acts left (put_back n)

    pub words-next : (held_at (suc n)).words ≡ cond acts left.words (put_back n).words
    unfolding delayed
    words-next = ap (λ (x : Held). x.words) (held_next n) ∙ of-choice (λ (x : Held). x.words) acts left (put_back n)

-- What a delay unit gives and its turn, as the code takes them, are the definition's. A unit that is written back in a part of the machine is written back in the machine.
-- Assumes nothing.
use mathlib.Core.Path.{◌≡◌, refl, sym, ap, ◌∙◌}
use mathlib.Core.Bool.{Bool, true, cond}
use mathlib.Core.List.{List, [], ◌∷◌, ◌++◌, append-nil}
use Prim.Native.Nat.{ℕ, zero, suc, ◌+◌, ◌-◌, ◌^◌, ◌≤◌, ◌<◌}
use native.Mathlib.Omega.{arith}
use native.Mathlib.Nat.{zero-add, le_of_suc-le-suc, not-suc-le-zero}
use lib.ListN.{length, set, take, drop, take-append-drop}
use lib.Seq.{length-take-le}
use Rattle.base_lists.proofs.Parts.{part-from}
use Rattle.layout.specs.Layout.{modifier_at, delay_at}
use Rattle.layout.specs.Machine.{Machine, Memory}
use Rattle.layout_texts.specs.declared.Text.{Text}
use Rattle.base_words.proofs.Residues.{sum_low}
use Rattle.modifier.specs.declared.Modifier.{Modifier}
use Rattle.modifier.specs.declared.Turned.{Turned}
use Rattle.modifier.specs.Modifier.{stored as stored_modifier}
use Rattle.modifier_delay.specs.Invoke.{unit_of, invoke_delay}
use Rattle.delay.specs.declared.Delay.{Delay}
use Rattle.delay.specs.Delay.{loaded, stored, runs, due, After, delay_turn_of}
use Rattle.delay_questions.specs.Questions.{delay_of}
use Rattle.pass_sums.proofs.Blocks.{set-behind, part-rest}
use Rattle.pass_model.specs.Modifiers.{invokes_delay, given, Held, delayed}

-- A unit behind p is written back in what stands behind p.
stored-behind : (p q : List ℕ) (d : Delay) → stored (p ++ q) (length p) d ≡ p ++ stored q 0 d
unfolding stored
stored-behind p q d = simp (set-behind, zero-add)

-- A part of the machine from a place on, with a unit written back at its start.
pub put_back : (words : List ℕ) (at : ℕ) (d : Delay) → at ≤ length words →
    take at words ++ (stored (take (length words - at) (drop at words)) 0 d ++ drop (length words - at) (drop at words)) ≡ stored words at d
put_back words at d h =
    rw (part-from words at, part-rest words at, append-nil)
    (sym (stored-behind (take at words) (drop at words) d) ∙ rw (length-take-le at words h, take-append-drop at words))

-- What is written before a place doesn't change what stands from there on.
drop-set : (l : List ℕ) (i j v : ℕ) → i < j → drop j (set l i v) ≡ drop j l
drop-set [] i j v h = refl
drop-set (x ∷ l) i zero v h = absurd (not-suc-le-zero h)
drop-set (x ∷ l) zero (suc j) v h = refl
drop-set (x ∷ l) (suc i) (suc j) v h = drop-set l i j v (le_of_suc-le-suc h)

-- The registers of a modifier stand before the delay units.
delay-kept : (words : Machine) (k n : ℕ) (u : Modifier) → k < 128 → delay_of (stored_modifier words (modifier_at k) u) n ≡ delay_of words n
unfolding stored_modifier
delay-kept words k n u h =
    ap loaded
    (drop-set _ (modifier_at k + 3) (delay_at n) _ (omega arith)
    ∙ drop-set _ (modifier_at k + 2) (delay_at n) _ (omega arith)
    ∙ drop-set _ (modifier_at k + 1) (delay_at n) _ (omega arith)
    ∙ drop-set words (modifier_at k) (delay_at n) _ (omega arith))

-- The turn of a unit that runs.
pub unit-taken : (d : Delay) (words : Machine) (memory : Memory) (n w : ℕ) {running : Bool} → running ≡ true → {after : Delay} {memory₁ : Memory} → record { unit = after; memory = memory₁ } ≡ delay_turn_of d memory w
    → {words₁ : Machine} → words₁ ≡ stored words (delay_at n) after
    → record { words = words₁; memory = memory₁ } ≡ cond {A = Held} running (record { words = stored words (delay_at n) (delay_turn_of d memory w).unit; memory = (delay_turn_of d memory w).memory }) (record { words = words; memory = memory })
unit-taken d words memory n w f a b = rw (f, b, ap (λ (x : After). x.unit) a, ap (λ (x : After). x.memory) a)

-- The word that goes to the unit has 20 bits.
pub word_low : (u : Modifier) (a dm : ℕ) → (invoke_delay u a dm).unit.l1 < 2 ^ 20
unfolding invoke_delay
word_low u a dm = sum_low 20 a _

-- The unit d, number n, that a modifier names, and whether it runs.
pub record Named (t : ℕ) (words : Machine) (u : Modifier) (n : ℕ) (d : Delay) (running : Bool) : Type 0 where
  pub number : n ≡ unit_of u
  pub unit : d ≡ delay_of words n
  pub runs-is : running ≡ runs t n d

module _ (text : Text) (t : ℕ) (words : Machine) (u : Modifier) {n : ℕ} {d : Delay} {running : Bool} (e : Named t words u n d running) where
  -- What it gives.
  pub gives : cond running (due d) 0 ≡ given t words u
  unfolding given
  gives = rw (e.runs-is, e.unit, e.number)

  -- Its turn, after the registers of modifier k are written back.
  pub turns : (k : ℕ) (after : Modifier) (memory : Memory) (w : ℕ) → k < 128 → invokes_delay text u ≡ true →
      cond {A = Held} running (record { words = stored (stored_modifier words (modifier_at k) after) (delay_at n) (delay_turn_of d memory w).unit; memory = (delay_turn_of d memory w).memory })
      (record { words = stored_modifier words (modifier_at k) after; memory = memory })
      ≡ delayed text t (record { words = stored_modifier words (modifier_at k) after; memory = memory }) u w
  unfolding delayed
  turns k after memory w h i = rw (i, delay-kept words k (unit_of u) after h, e.runs-is, e.unit, e.number)

  -- The modifier and its unit.
  pub taken : (a k : ℕ) (memory : Memory) → k < 128 → invokes_delay text u ≡ true → {dm : ℕ} → dm ≡ cond running (due d) 0 → {turn : Turned} → turn ≡ invoke_delay u a dm
      → {words₁ : Machine} → words₁ ≡ stored_modifier words (modifier_at k) turn.unit → {after : Held}
      → after ≡ cond {A = Held} running (record { words = stored words₁ (delay_at n) (delay_turn_of d memory turn.unit.l1).unit; memory = (delay_turn_of d memory turn.unit.l1).memory }) (record { words = words₁; memory = memory })
      → (turn.s ≡ (invoke_delay u a (given t words u)).s)
      × (after ≡ delayed text t (record { words = stored_modifier words (modifier_at k) (invoke_delay u a (given t words u)).unit; memory = memory }) u (invoke_delay u a (given t words u)).unit.l1)
  taken a k memory h i x y z after = rw (after, z, y, x, gives) (refl, turns k (invoke_delay u a (given t words u)).unit memory (invoke_delay u a (given t words u)).unit.l1 h i)

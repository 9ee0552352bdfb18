-- What the turn of a delay unit leaves of a machine's words and of delay memory.
-- Assumes nothing.
use mathlib.Core.Path.{◌≡◌, refl, ◌∙◌}
use mathlib.Core.Logic.{◌≢◌}
use mathlib.Core.Bool.{Bool, true, false, ◌&&◌}
use Prim.Native.Nat.{ℕ, ◌+◌, ◌%◌, ◌^◌, ◌≤◌, ◌<◌}
use native.Mathlib.Omega.{arith}
use native.Mathlib.Nat.{mod-lt}
use borrow.Author.Tests.{eqb-true, eqb-false}
use lib.Dec.{eqb, lit<}
use lib.ListN.{length, get_or, set, length-set}
use lib.Pow.{pow_pos}
use lib.Seq.{get_or-drop, get_or-set_same, get_or-set_other}
use Rattle.base_lists.proofs.Choices.{of-cond}
use Rattle.layout.specs.Layout.{delay_at, delay_y, delay_z, delay_first, delay_second, delay_third}
use Rattle.layout.specs.Machine.{Machine, Memory}
use Rattle.layout_texts.specs.declared.Text.{Text}
use Rattle.modifier.specs.declared.Modifier.{Modifier}
use Rattle.modifier_delay.specs.Invoke.{unit_of}
use Rattle.delay.specs.declared.Delay.{Delay}
use Rattle.delay.specs.Delay.{loaded, stored, runs, delay_turn_of}
use Rattle.delay.proofs.Low.{WordsLow, memory-low}
use Rattle.delay.proofs.Turn.{memory-length, y-within}
use Rattle.delay_questions.specs.Questions.{delay_of}
use Rattle.pass_model.specs.Modifiers.{invokes_delay, Held, delayed}

-- Place i has no Y and no word on its way of a delay unit: what a unit's turn can change.
pub record OffUnits (i : ℕ) : Type 0 where
  pub y : (u : ℕ) → u < 32 → i ≢ delay_at u + delay_y
  pub way : (u j : ℕ) → u < 32 → j < 3 → i ≢ delay_at u + (delay_first + j)

pub off-below : (i : ℕ) → i < delay_at 0 → OffUnits i
off-below i h = record { y = λ u l e. omega arith; way = λ u j l k e. omega arith }

-- A place past the last unit.
pub off-past : (i : ℕ) → delay_at 32 ≤ i → OffUnits i
off-past i h = record { y = λ u l e. omega arith; way = λ u j l k e. omega arith }

-- X, Z and P of a unit.
pub off-setting : (u j : ℕ) → u < 32 → j < 4 → j ≢ delay_y → OffUnits (delay_at u + j)
off-setting u j h l n = record { y = λ v k e. omega (arith, n); way = λ v i k b e. omega arith }

-- A unit written back.
module _ (m : Machine) (at : ℕ) (d : Delay) where
  pub stored-length : length (stored m at d) ≡ length m
  unfolding stored
  stored-length = simp length-set

  pub stored_other : (i : ℕ) → i ≢ at + delay_y → i ≢ at + delay_first → i ≢ at + delay_second → i ≢ at + delay_third → get_or (stored m at d) i 0 ≡ get_or m i 0
  unfolding stored
  stored_other i a b c e =
      get_or-set_other (set (set (set m (at + delay_y) d.y) (at + delay_first) d.first) (at + delay_second) d.second) (at + delay_third) i d.third 0 e
      ∙ get_or-set_other (set (set m (at + delay_y) d.y) (at + delay_first) d.first) (at + delay_second) i d.second 0 c
      ∙ get_or-set_other (set m (at + delay_y) d.y) (at + delay_first) i d.first 0 b
      ∙ get_or-set_other m (at + delay_y) i d.y 0 a

  -- Y is that of the unit.
  pub stored-y : at + delay_y < length m → get_or (stored m at d) (at + delay_y) 0 ≡ d.y
  unfolding stored
  stored-y h =
      get_or-set_other (set (set (set m (at + delay_y) d.y) (at + delay_first) d.first) (at + delay_second) d.second) (at + delay_third) (at + delay_y) d.third 0 (λ e. omega arith)
      ∙ get_or-set_other (set (set m (at + delay_y) d.y) (at + delay_first) d.first) (at + delay_second) (at + delay_y) d.second 0 (λ e. omega arith)
      ∙ get_or-set_other (set m (at + delay_y) d.y) (at + delay_first) (at + delay_y) d.first 0 (λ e. omega arith)
      ∙ get_or-set_same m (at + delay_y) d.y 0 h

-- Y and Z of a unit in a machine's words, at their widths.
abbrev pub y_of : Machine → ℕ → ℕ
y_of m u = get_or m (delay_at u + delay_y) 0 % 2 ^ 16

abbrev pub z_of : Machine → ℕ → ℕ
z_of m u = get_or m (delay_at u + delay_z) 0 % 2 ^ 16

pub y-is : (m : Machine) (u : ℕ) → (delay_of m u).y ≡ y_of m u
unfolding loaded
y-is m u = rw (get_or-drop (delay_at u) m delay_y 0)

pub z-is : (m : Machine) (u : ℕ) → (delay_of m u).z ≡ z_of m u
unfolding loaded
z-is m u = rw (get_or-drop (delay_at u) m delay_z 0)

low-unit : (u : Modifier) → unit_of u < 32
low-unit u = mod-lt u.mrm (pow_pos 5)

-- The turn of a unit, if it is taken.
module _ (text : Text) (t : ℕ) (h : Held) (u : Modifier) (w : ℕ) where
  abbrev unit : Delay
  unit = delay_of h.words (unit_of u)

  abbrev acts : Bool
  acts = invokes_delay text u && runs t (unit_of u) unit

  abbrev put : Machine
  put = stored h.words (delay_at (unit_of u)) (delay_turn_of unit h.memory w).unit

  -- What holds of the words as they were and of those with the unit written back holds of what is left.
  pub words-by : (P : Machine → Type 0) → P h.words → P put → P (delayed text t h u w).words
  unfolding delayed
  words-by P p q = of-cond (λ (k : Held). P k.words) acts q p

  pub memory-by : (P : Memory → Type 0) → P h.memory → P (delay_turn_of unit h.memory w).memory → P (delayed text t h u w).memory
  unfolding delayed
  memory-by P p q = of-cond (λ (k : Held). P k.memory) acts q p

  pub delayed-length : length (delayed text t h u w).words ≡ length h.words
  delayed-length = words-by (λ l. length l ≡ length h.words) refl (stored-length h.words (delay_at (unit_of u)) _)

  pub delayed-kept : (i : ℕ) → OffUnits i → get_or (delayed text t h u w).words i 0 ≡ get_or h.words i 0
  delayed-kept i o =
      words-by (λ l. get_or l i 0 ≡ get_or h.words i 0) refl
      (stored_other h.words (delay_at (unit_of u)) _ i (o.y (unit_of u) (low-unit u)) (o.way (unit_of u) 0 (low-unit u) (lit< tt))
      (o.way (unit_of u) 1 (low-unit u) (lit< tt)) (o.way (unit_of u) 2 (low-unit u) (lit< tt)))

  pub delayed-memory-length : length (delayed text t h u w).memory ≡ length h.memory
  delayed-memory-length = memory-by (λ l. length l ≡ length h.memory) refl (memory-length unit h.memory w)

  pub delayed-memory-low : w < 2 ^ 20 → WordsLow h.memory → WordsLow (delayed text t h u w).memory
  delayed-memory-low b low = memory-by WordsLow low (memory-low unit h.memory w low b)

  -- Y of a unit stays at most Z.
  pub delayed-within : (v : ℕ) → v < 32 → delay_at v + delay_y < length h.words → y_of h.words v ≤ z_of h.words v
      → y_of (delayed text t h u w).words v ≤ z_of h.words v
  delayed-within v l inside e = words-by (λ m. y_of m v ≤ z_of h.words v) e (own (eqb v (unit_of u)) refl)
    where
      after : Delay
      after = (delay_turn_of unit h.memory w).unit

      own : (b : Bool) → eqb v (unit_of u) ≡ b → y_of put v ≤ z_of h.words v
      own true q =
          let p : v ≡ unit_of u = eqb-true v (unit_of u) q in
          let e' : y_of h.words (unit_of u) ≤ z_of h.words (unit_of u) = rw p at e in
          let within : after.y ≤ unit.z = y-within unit h.memory w (omega (arith, y-is h.words (unit_of u), z-is h.words (unit_of u), e')) in
          let y : get_or put (delay_at v + delay_y) 0 ≡ after.y = rw p (stored-y h.words (delay_at (unit_of u)) after (omega (arith, p, inside))) in
          let z : unit.z ≡ z_of h.words v = rw p (z-is h.words (unit_of u)) in
          omega (arith, y, within, z)
      own false q =
          let n : v ≢ unit_of u = eqb-false v (unit_of u) q in
          let y : get_or put (delay_at v + delay_y) 0 ≡ get_or h.words (delay_at v + delay_y) 0 =
          stored_other h.words (delay_at (unit_of u)) after (delay_at v + delay_y) (λ i. n (omega arith)) (λ i. omega arith) (λ i. omega arith) (λ i. omega arith) in
          rw y e

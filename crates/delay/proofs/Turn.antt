-- What one turn leaves: register by register, of a line and of a table, and what every turn keeps.
-- Assumes nothing.
use mathlib.Core.Path.{◌≡◌, refl}
use mathlib.Core.Logic.{◌≢◌}
use Prim.Native.Nat.{ℕ, ◌≤◌}
use native.Mathlib.Omega.{arith}
use borrow.Author.Tests.{eq-eqb, ne_eqb, ltb-true}
use lib.Dec.{eqb, ltb}
use lib.ListN.{length, get_or, set, length-set}
use Rattle.base_lists.proofs.Choices.{of-cond, of_test}
use Rattle.layout.specs.Machine.{Memory}
use Rattle.delay.specs.declared.Delay.{Delay}
use Rattle.layout_codes.specs.BuiltCodes.{line}
use Rattle.delay.specs.Delay.{slot, stepped, address, After, line_turn, table_turn, delay_turn_of}

module _ (d : Delay) (memory : Memory) (w : ℕ) where
  -- A line's turn is that of mode 1000, and every other mode's is a table's.
  pub line-turn : d.p ≡ line → delay_turn_of d memory w ≡ line_turn d memory w
  unfolding delay_turn_of
  line-turn e = rw (eq-eqb _ _ e)

  pub table-turn : d.p ≢ line → delay_turn_of d memory w ≡ table_turn d memory w
  unfolding delay_turn_of
  table-turn n = rw (ne_eqb _ _ n)

  -- What holds of a line's turn and of a table's holds of every turn.
  pub every-turn : (P : After → Type 0) → P (line_turn d memory w) → P (table_turn d memory w) → P (delay_turn_of d memory w)
  unfolding delay_turn_of
  every-turn P = of-cond P (eqb d.p line)

  -- X, Z and P stay.
  pub x-kept : (delay_turn_of d memory w).unit.x ≡ d.x
  unfolding line_turn table_turn
  x-kept = every-turn (λ a. a.unit.x ≡ d.x) refl refl

  pub z-kept : (delay_turn_of d memory w).unit.z ≡ d.z
  unfolding line_turn table_turn
  z-kept = every-turn (λ a. a.unit.z ≡ d.z) refl refl

  pub p-kept : (delay_turn_of d memory w).unit.p ≡ d.p
  unfolding line_turn table_turn
  p-kept = every-turn (λ a. a.unit.p ≡ d.p) refl refl

  -- The second word on its way moves up.
  pub second-moves : (delay_turn_of d memory w).unit.first ≡ d.second
  unfolding line_turn table_turn
  second-moves = every-turn (λ a. a.unit.first ≡ d.second) refl refl

  -- Delay memory keeps its length.
  pub memory-length : length (delay_turn_of d memory w).memory ≡ length memory
  unfolding line_turn table_turn
  memory-length = every-turn (λ a. length a.memory ≡ length memory) (length-set memory (slot d) w) refl

  -- Y at most Z stays at most Z.
  pub y-within : d.y ≤ d.z → (delay_turn_of d memory w).unit.y ≤ d.z
  unfolding line_turn table_turn
  y-within h = every-turn (λ a. a.unit.y ≤ d.z) (of_test (λ y. y ≤ d.z) (ltb d.y d.z) (λ e. omega (arith, ltb-true d.y d.z e)) (λ _. omega arith)) h

  -- A line's turn: Y steps, the word in the slot becomes the second, the new word is put there.
  module _ (e : d.p ≡ line) where
    pub line-y : (delay_turn_of d memory w).unit.y ≡ stepped d
    unfolding line_turn
    line-y = rw (line-turn e)

    pub line_second : (delay_turn_of d memory w).unit.second ≡ get_or memory (slot d) 0
    unfolding line_turn
    line_second = rw (line-turn e)

    pub line-memory : (delay_turn_of d memory w).memory ≡ set memory (slot d) w
    unfolding line_turn
    line-memory = rw (line-turn e)

  -- A table's turn: the third moves up, and the answer becomes the third.
  module _ (n : d.p ≢ line) where
    pub table-second : (delay_turn_of d memory w).unit.second ≡ d.third
    unfolding table_turn
    table-second = rw (table-turn n)

    pub table-third : (delay_turn_of d memory w).unit.third ≡ get_or memory (address d w) 0
    unfolding table_turn
    table-third = rw (table-turn n)

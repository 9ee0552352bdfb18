-- Every two orders of a machine's generators are equal (document 02, Q-2).
-- Assumes nothing.
use Rattle.std.specs.Prelude.{◌≡◌, [], ◌∷◌}
use Rattle.layout.specs.Machine.{Machine, Order, ticks_of}
use Rattle.layout_texts.specs.declared.Text.TheVariants.{Of1978}
use Rattle.base_questions.specs.Questions.{asked}
use Rattle.pass_order.specs.Order.{question5, question6}
use Rattle.equal_orders.specs.Equal.{Equal}

-- An order that passes questions 5 and 6.
abbrev pub Passes : Machine → Order → Type 0
Passes m o = asked (question5 (ticks_of m) o ∷ question6 (ticks_of m) o ∷ []) ≡ 0

-- Every two such orders are equal.
abbrev pub EveryTwoEqual : Machine → Type 0
EveryTwoEqual m = (o₁ o₂ : Order) → Passes m o₁ → Passes m o₂ → Equal Of1978 m o₁ o₂

-- Two orders that pass questions 5 and 6 and are not equal.
pub record Apart (m : Machine) (o₁ o₂ : Order) : Type 0 where
  pub first : Passes m o₁
  pub second : Passes m o₂
  pub parted : Equal Of1978 m o₁ o₂ → ⊥

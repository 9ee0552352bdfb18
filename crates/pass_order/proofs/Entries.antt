-- An order that passes questions 5 and 6 has each number below t once, and so only numbers below t.
-- Assumes nothing.
use mathlib.Core.Path.{◌≡◌, refl}
use mathlib.Core.Bool.{Bool, true, false, cond}
use mathlib.Core.List.{[], ◌∷◌}
use Prim.Native.Nat.{ℕ, ◌<◌}
use native.Mathlib.Omega.{arith}
use borrow.Author.Tests.{eqb-true, eq-eqb}
use lib.Dec.{eqb}
use lib.ListN.{length}
use Rattle.base_lists.specs.Lists.{count}
use Rattle.base_lists.proofs.Below.{below_at, below-from}
use Rattle.base_lists.proofs.Counts.{once-below}
use Rattle.layout.specs.Machine.{Order}
use Rattle.base_questions.specs.Questions.{asked}
use Rattle.pass_order.specs.Order.{question5, question6, each_once, IsOrder}

-- Question 6 answered yes: each number below t is there once.
pub once-each : (t : ℕ) (order : Order) → each_once t order ≡ true → (k : ℕ) → k < t → count k order ≡ 1
unfolding each_once
once-each t order e k h = eqb-true (count k order) 1 (below_at (λ g. eqb (count g order) 1) t e k h)

-- Questions 5 and 6 answered yes.
pub order-passes : (t : ℕ) (order : Order) → asked (question5 t order ∷ question6 t order ∷ []) ≡ 0 → IsOrder t order
unfolding asked
order-passes t order e = by_length (eqb (length order) t) (each_once t order) refl refl e where
  by_length : (a b : Bool) → eqb (length order) t ≡ a → each_once t order ≡ b → ◌≡◌ {A = ℕ} (cond a (cond b 0 6) 5) 0 → IsOrder t order
  by_length true true p q e =
      let n = eqb-true (length order) t p in
      record { entries = n; once = once-each t order q; below = once-below t order n (once-each t order q) }
  by_length true false p q e = absurd (omega arith)
  by_length false b p q e = absurd (omega arith)

-- The other way: such an order passes questions 5 and 6.
pub passes-order : (t : ℕ) (order : Order) → IsOrder t order → asked (question5 t order ∷ question6 t order ∷ []) ≡ 0
unfolding asked each_once
passes-order t order is =
    rw (eq-eqb (length order) t is.entries, below-from (λ g. eqb (count g order) 1) t (λ k h. eq-eqb (count k order) 1 (is.once k h)))

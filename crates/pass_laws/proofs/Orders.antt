-- An order in which each number below t stands once, as the order by number: its entries are distinct numbers of generators, and it can be cut at each of them.
-- Assumes nothing.
use mathlib.Core.Path.{◌≡◌, refl, ◌∙◌, ap}
use mathlib.Core.Bool.{Bool, true, false, cond}
use mathlib.Core.List.{List, [], ◌∷◌, ◌++◌}
use Prim.Native.Nat.{ℕ, suc, ◌+◌, ◌≤◌, ◌<◌}
use native.Mathlib.Omega.{arith}
use borrow.Author.Tests.{eqb-true, eqb-false}
use lib.Dec.{eqb}
use lib.ListN.{length, get_or}
use Rattle.base_lists.specs.Lists.{count}
use Rattle.layout.specs.Machine.{Order}
use Rattle.pass_order.specs.Order.{IsOrder}
use Rattle.base_lists.proofs.Counts.{count-first, count_next}
use Rattle.base_sequences.specs.Sequences.{by_number}
use Rattle.base_sequences.proofs.ByNumber.{by-number-length, by-number-at, by-number-once}
use Rattle.base_sequences.proofs.Orders.{there-once}

-- The order by number.
pub by-number-order : (t : ℕ) → IsOrder t (by_number t)
by-number-order t =
    record {
      entries = by-number-length t;
      once = by-number-once t;
      below = λ i h. let l : i < t = omega (arith, h, by-number-length t) in rw (by-number-at t i l) l;
    }

-- Numbers of generators, none of them twice.
pub record Distinct (order : Order) : Type 0 where
  pub once : (g : ℕ) → count g order ≤ 1
  pub below : (i : ℕ) → i < length order → get_or order i 0 < 256

pub distinct-order : (t : ℕ) (order : Order) → t ≤ 256 → IsOrder t order → Distinct order
distinct-order t order l o = record { once = there-once t order o.once o.below; below = λ i h. omega (arith, o.below i h) }

-- The first entry is not among the others, which are distinct too.
pub distinct-first : (g : ℕ) (order : Order) → Distinct (g ∷ order) → count g order ≡ 0
distinct-first g order d = omega (arith, d.once g, count-first g order)

pub distinct-rest : (g : ℕ) (order : Order) → Distinct (g ∷ order) → Distinct order
unfolding count
distinct-rest g order d = record { once = λ k. omega (arith, d.once k); below = λ i h. d.below (suc i) (omega arith) }

-- A list in which g stands once, as what is before it and what is behind it.
pub record Split (g : ℕ) (order : Order) : Type 0 where
  pub before : Order
  pub behind : Order
  pub is : order ≡ before ++ (g ∷ behind)
  pub not-before : count g before ≡ 0
  pub not_behind : count g behind ≡ 0

pub split-once : (g : ℕ) (order : Order) → count g order ≡ 1 → Split g order
unfolding count
split-once g [] e = absurd (omega arith)
split-once g (x ∷ order) e = go (eqb x g) refl e (λ n. split-once g order n)
  where
    none : (g : ℕ) → count g [] ≡ 0
    none g = refl

    go : (b : Bool) → eqb x g ≡ b → cond b 1 0 + count g order ≡ 1 → (count g order ≡ 1 → Split g order) → Split g (x ∷ order)
    go true q n ih = record { before = []; behind = order; is = ap (λ (y : ℕ). y ∷ order) (eqb-true x g q); not-before = none g; not_behind = omega arith }
    go false q n ih =
        let s = ih (omega arith) in
        record {
          before = x ∷ s.before;
          behind = s.behind;
          is = ap (λ (l : List ℕ). x ∷ l) s.is;
          not-before = count_next g x s.before (eqb-false x g q) ∙ s.not-before;
          not_behind = s.not_behind;
        }

-- Question 12 is what the marking of the named units answers: a modifier whose unit has a mark is one of two that invoke it.
-- Assumes nothing.
use mathlib.Core.Path.{◌≡◌, refl, sym, ◌∙◌}
use mathlib.Core.Bool.{Bool, true, false, cond, not, ◌&&◌, ◌||◌, and-false}
use mathlib.Core.List.{List}
use Prim.Native.Nat.{ℕ, zero, suc, ◌+◌, ◌/◌, ◌<◌}
use native.Mathlib.Numerals.{add-one}
use native.Mathlib.Omega.{arith}
use borrow.Author.Tests.{eqb-true, eqb-false}
use lib.Dec.{eqb}
use lib.ListN.{length, get_or, set, replicate, length-set, get_or-replicate, length-replicate}
use lib.Seq.{get_or-set_same, get_or-set_other}
use Rattle.base_lists.specs.Lists.{all_below}
use Rattle.base_lists.proofs.Below.{below-same}
use Rattle.layout.specs.Machine.{Machine, ticks_of}
use Rattle.delay_questions.specs.Questions.{invokes, named_by, apart, named_once}
use Rattle.delay_questions.specs.AsCoded.{unmarked, unit_marked}

-- Some modifier below n invokes unit u.
unfoldable pub named : Machine → ℕ → ℕ → Bool
named m u zero = false
named m u (suc n) = (invokes m n && eqb (named_by m n) u) || named m u n

-- Modifier k invokes no unit that a modifier below it invokes.
unfoldable pub fresh : Machine → ℕ → Bool
fresh m k = not (invokes m k && named m (named_by m k) k)

apart_below : (m : Machine) (k n : ℕ) → all_below (λ j. apart m j k) n ≡ not (invokes m k && named m (named_by m k) n)
unfolding apart named
apart_below m k zero = rw and-false
apart_below m k (suc n) =
    rw (apart_below m k n) (joined (invokes m n) (invokes m k) (eqb (named_by m n) (named_by m k)) (named m (named_by m k) n))
  where
    joined : (a b e r : Bool) → (not (a && (b && e)) && not (b && r)) ≡ not (b && ((a && e) || r))
    joined true true true r = refl
    joined true true false r = refl
    joined true false e r = refl
    joined false true e r = refl
    joined false false e r = refl

pub once-fresh : (m : Machine) → named_once m ≡ all_below (fresh m) (ticks_of m / 2)
unfolding named_once fresh
once-fresh m = below-same (λ k. all_below (λ j. apart m j k) k) (λ k. not (invokes m k && named m (named_by m k) k)) (ticks_of m / 2) (λ k h. apart_below m k k)

-- The marks of the units that the modifiers below k invoke.
pub record Marks (m : Machine) (marks : List Bool) (k : ℕ) : Type 0 where
  pub all : length marks ≡ 32
  pub tell : (u : ℕ) → u < 32 → get_or marks u false ≡ named m u k

pub marks-none : (m : Machine) → Marks m (replicate 32 false) 0
unfolding named
marks-none m = record { all = length-replicate 32 false; tell = λ u h. get_or-replicate 32 u false false h }

module _ (m : Machine) (marks : List Bool) (k : ℕ) (is : Marks m marks k) where
  pub marks-tell : unmarked m marks k ≡ fresh m k
  unfolding unmarked fresh
  marks-tell = rw (is.tell (named_by m k) (omega arith))

  pub marks-next : Marks m (unit_marked m marks k) (k + 1)
  unfolding unit_marked named
  marks-next = rw (add-one k) (by-function (invokes m k) refl)
    where
      by-unit : (u : ℕ) (b : Bool) → u < 32 → eqb (named_by m k) u ≡ b → get_or (set marks (named_by m k) true) u false ≡ (b || named m u k)
      by-unit u true h e = rw (← (eqb-true (named_by m k) u e)) (get_or-set_same marks (named_by m k) true false (omega (arith, is.all)))
      by-unit u false h e = get_or-set_other marks (named_by m k) u true false (λ q. eqb-false (named_by m k) u e (sym q)) ∙ is.tell u h

      by-function : (b : Bool) → invokes m k ≡ b → Marks m (cond (invokes m k) (set marks (named_by m k) true) marks) (suc k)
      by-function true e =
          rw e
          record {
            all = length-set marks (named_by m k) true ∙ is.all;
            tell = λ u h. rw e (by-unit u (eqb (named_by m k) u) h refl);
          }
      by-function false e = rw e record { all = is.all; tell = λ u h. rw e (is.tell u h) }

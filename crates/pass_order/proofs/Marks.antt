-- Question 6 is what the marking of the entries in turn answers: where each entry is below T and has no mark yet, no number is there twice,
-- and t numbers below t of which none is there twice are each there once.
-- Assumes nothing.
use mathlib.Core.Path.{◌≡◌, refl, sym, ◌∙◌}
use mathlib.Core.Bool.{Bool, true, false, cond, not, ◌&&◌}
use mathlib.Core.List.{List, [], ◌∷◌}
use Prim.Native.Nat.{ℕ, zero, suc, ◌+◌, ◌≤◌, ◌<◌}
use native.Mathlib.Omega.{arith}
use native.Mathlib.Nat.{not-suc-le-zero, le_of_suc-le-suc, lt_of_lt_of_le}
use native.Mathlib.Numerals.{add-one}
use Rattle.std.proofs.lemmas.Bool.{not-true, true≢false}
use borrow.Author.Tests.{ltb-true, lt-ltb, eqb-true, eqb-false, eq-eqb, ne_eqb}
use lib.Dec.{eqb, ltb}
use lib.ListN.{length, get_or, set, drop, replicate, length-set, length-replicate, get_or-replicate, drop_of_length-le}
use lib.Seq.{drop-cons, get_or-set_same, get_or-set_other}
use Rattle.base_lists.specs.Lists.{count}
use Rattle.base_lists.proofs.Below.{both_ways, and_first, and_second, and_both, below-from}
use Rattle.base_lists.proofs.Counts.{count-first, count_next, once-below, below-once}
use Rattle.layout.specs.Layout.{generators}
use Rattle.layout.specs.Machine.{Order}
use Rattle.pass_order.specs.Order.{each_once}
use Rattle.pass_order.specs.AsCoded.{unmarked, number_marked, each_unmarked}
use Rattle.pass_order.proofs.Entries.{once-each}

-- One entry further, an entry that stops the marking, and none left.
pub unmarked-next : (t : ℕ) (marks : List Bool) (order : Order) (i : ℕ) → i < length order → unmarked t marks (get_or order i 0) ≡ true
    → each_unmarked t (number_marked t marks (get_or order i 0)) (drop (i + 1) order) ≡ each_unmarked t marks (drop i order)
unfolding each_unmarked number_marked
unmarked-next t marks order i h e = rw (add-one i, drop-cons order i 0 h, e)

pub unmarked-stop : (t : ℕ) (marks : List Bool) (order : Order) (i : ℕ) → i < length order → unmarked t marks (get_or order i 0) ≡ false
    → each_unmarked t marks (drop i order) ≡ false
unfolding each_unmarked
unmarked-stop t marks order i h e = rw (drop-cons order i 0 h, e)

pub unmarked-end : (t : ℕ) (marks : List Bool) (order : Order) (i : ℕ) → length order ≤ i → each_unmarked t marks (drop i order) ≡ true
unfolding each_unmarked
unmarked-end t marks order i h = rw (drop_of_length-le order {i = i} h)

-- What an unmarked number is.
is_below : (t : ℕ) (marks : List Bool) (g : ℕ) → unmarked t marks g ≡ true → g < t
unfolding unmarked
is_below t marks g e = ltb-true g t (and_first (ltb g t) (not (get_or marks g false)) e)

is_free : (t : ℕ) (marks : List Bool) (g : ℕ) → unmarked t marks g ≡ true → get_or marks g false ≡ false
unfolding unmarked
is_free t marks g e = not-true (get_or marks g false) (and_second (ltb g t) (not (get_or marks g false)) e)

-- Where each entry in turn passes: all are below t, a number with a mark isn't there, and none is there twice.
entries_below : (t : ℕ) (marks : List Bool) (xs : List ℕ) → each_unmarked t marks xs ≡ true → (i : ℕ) → i < length xs → get_or xs i 0 < t
unfolding each_unmarked
entries_below t marks [] e i h = absurd (not-suc-le-zero h)
entries_below t marks (x ∷ xs) e zero h = is_below t marks x (and_first (unmarked t marks x) (each_unmarked t (set marks x true) xs) e)
entries_below t marks (x ∷ xs) e (suc i) h =
    entries_below t (set marks x true) xs (and_second (unmarked t marks x) (each_unmarked t (set marks x true) xs) e) i (le_of_suc-le-suc h)

marked-not-there : (t : ℕ) (marks : List Bool) (xs : List ℕ) (k : ℕ) → each_unmarked t marks xs ≡ true → get_or marks k false ≡ true → count k xs ≡ 0
unfolding each_unmarked count
marked-not-there t marks [] k e one = refl
marked-not-there t marks (x ∷ xs) k e one =
    let z : get_or marks x false ≡ false = is_free t marks x (and_first (unmarked t marks x) (each_unmarked t (set marks x true) xs) e) in
    let n : x ≡ k → ⊥ = (λ q. absurd (differ q z)) in
    let later = marked-not-there t (set marks x true) xs k (and_second (unmarked t marks x) (each_unmarked t (set marks x true) xs) e)
    (rw (get_or-set_other marks x k true false (λ q. n (sym q))) one) in
    rw (ne_eqb x k n) (omega (arith, later))
  where
    differ : x ≡ k → get_or marks x false ≡ false → ⊥
    differ q z = let y : get_or marks k false ≡ false = rw q at z in true≢false (sym one ∙ y)

none-twice : (t : ℕ) (marks : List Bool) (xs : List ℕ) (k : ℕ) → k < length marks → each_unmarked t marks xs ≡ true → count k xs ≤ 1
unfolding each_unmarked count
none-twice t marks [] k l e = omega arith
none-twice t marks (x ∷ xs) k l e =
    by_first (eqb x k) refl
    (λ q. marked-not-there t (set marks x true) xs k rest (rw q (get_or-set_same marks k true false l)))
    (none-twice t (set marks x true) xs k (rw (length-set marks x true) l) rest)
  where
    rest : each_unmarked t (set marks x true) xs ≡ true
    rest = and_second (unmarked t marks x) (each_unmarked t (set marks x true) xs) e

    by_first : (b : Bool) → eqb x k ≡ b → (x ≡ k → count k xs ≡ 0) → count k xs ≤ 1 → cond b 1 0 + count k xs ≤ 1
    by_first true q none once = omega (arith, none (eqb-true x k q))
    by_first false q none once = omega arith

-- And back: entries below t, and no number there more often than it still may.
free_from : (b : Bool) (n : ℕ) → cond b 1 0 + suc n ≤ 1 → not b ≡ true
free_from true n h = absurd (omega arith)
free_from false n h = refl

passes : (t : ℕ) (marks : List Bool) (xs : List ℕ) → t ≤ length marks → ((i : ℕ) → i < length xs → get_or xs i 0 < t)
    → ((k : ℕ) → k < t → cond (get_or marks k false) 1 0 + count k xs ≤ 1) → each_unmarked t marks xs ≡ true
unfolding each_unmarked unmarked
passes t marks [] l b c = refl
passes t marks (x ∷ xs) l b c =
    and_both (ltb x t && not (get_or marks x false)) (each_unmarked t (set marks x true) xs)
    (and_both (ltb x t) (not (get_or marks x false)) (lt-ltb x t low) (free_from (get_or marks x false) (count x xs) here))
    (passes t (set marks x true) xs (rw (length-set marks x true) l) (λ i h. b (suc i) (omega arith)) (λ k h. later k h (eqb x k) refl))
  where
    low : x < t
    low = b 0 (omega arith)

    here : cond (get_or marks x false) 1 0 + suc (count x xs) ≤ 1
    here = rw (count-first x xs) at (c x low)

    later : (k : ℕ) → k < t → (b : Bool) → eqb x k ≡ b → cond (get_or (set marks x true) k false) 1 0 + count k xs ≤ 1
    later k h true q = rw (← (eqb-true x k q), get_or-set_same marks x true false (lt_of_lt_of_le low l)) (omega (arith, here))
    later k h false q =
        rw (get_or-set_other marks x k true false (λ p. eqb-false x k q (sym p))) (rw (count_next k x xs (eqb-false x k q)) at (c k h))

-- The marking, from no mark, answers question 6.
pub marks-once : (t : ℕ) (order : Order) → t ≤ generators → length order ≡ t → each_unmarked t (replicate generators false) order ≡ each_once t order
unfolding each_once
marks-once t order l n =
    both_ways (each_unmarked t (replicate generators false) order) (each_once t order)
    (λ e. below-from (λ g. eqb (count g order) 1) t
    (λ k h. eq-eqb (count k order) 1
    (below-once t order n (entries_below t (replicate generators false) order e)
    (λ j i. none-twice t (replicate generators false) order j (rw (length-replicate generators false) (omega arith)) e) k h)))
    (λ e. passes t (replicate generators false) order (rw (length-replicate generators false) l)
    (once-below t order n (once-each t order e))
    (λ k h. rw (get_or-replicate generators k false false (omega arith)) (omega (arith, once-each t order e k h))))

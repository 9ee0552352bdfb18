-- The order by number: its length, its entries, its first entries, and that each number is there once.
-- Assumes nothing.
use mathlib.Core.Path.{◌≡◌, refl, ◌∙◌, ap}
use mathlib.Core.Logic.{◌≢◌}
use mathlib.Core.Bool.{Bool, true, false}
use mathlib.Core.List.{List, ◌∷◌}
use Prim.Native.Nat.{ℕ, zero, suc, ◌+◌, ◌≤◌, ◌<◌}
use native.Mathlib.Omega.{arith}
use borrow.Author.Tests.{eqb-true, eqb-false}
use lib.Dec.{eqb}
use lib.ListN.{length, get_or, take}
use Rattle.base_lists.specs.Lists.{tabulate, count}
use Rattle.base_lists.proofs.Counts.{count-first, count_next}
use Rattle.base_lists.proofs.Tables.{tabulate-at, tabulate-length}
use Rattle.base_sequences.specs.Sequences.{by_number}

pub by-number-length : (n : ℕ) → length (by_number n) ≡ n
unfolding by_number
by-number-length n = tabulate-length (λ g. g) 0 n

pub by-number-at : (n k : ℕ) → k < n → get_or (by_number n) k 0 ≡ k
unfolding by_number
by-number-at n k h = tabulate-at (λ g. g) n k 0 h

tabulate-take : (t n i : ℕ) → t ≤ n → take t (tabulate (λ g. g) i n) ≡ tabulate (λ g. g) i t
unfolding tabulate
tabulate-take zero n i h = refl
tabulate-take (suc t) zero i h = absurd (omega arith)
tabulate-take (suc t) (suc n) i h = ap (λ (l : List ℕ). i ∷ l) (tabulate-take t n (suc i) (omega arith))

-- The first t entries of the order by number of n generators are that of t.
pub first-entries : (t n : ℕ) → t ≤ n → take t (by_number n) ≡ by_number t
unfolding by_number
first-entries t n h = tabulate-take t n 0 h

-- Each number below t is there once, and no other.
none_before : (k i n : ℕ) → k < i → count k (tabulate (λ g. g) i n) ≡ 0
unfolding tabulate count
none_before k i zero h = refl
none_before k i (suc n) h = count_next k i (tabulate (λ g. g) (suc i) n) (λ e. omega arith) ∙ none_before k (suc i) n (omega arith)

none-past : (k i n : ℕ) → i + n ≤ k → count k (tabulate (λ g. g) i n) ≡ 0
unfolding tabulate count
none-past k i zero h = refl
none-past k i (suc n) h = count_next k i (tabulate (λ g. g) (suc i) n) (λ e. omega arith) ∙ none-past k (suc i) n (omega arith)

once-from : (k i n : ℕ) → i ≤ k → k < i + n → count k (tabulate (λ g. g) i n) ≡ 1
unfolding tabulate
once-from k i zero l h = absurd (omega arith)
once-from k i (suc n) l h = go (eqb i k) refl (λ q. once-from k (suc i) n (omega (arith, q)) (omega arith))
  where
    rest : List ℕ
    rest = tabulate (λ g. g) (suc i) n

    go : (b : Bool) → eqb i k ≡ b → (i ≢ k → count k rest ≡ 1) → count k (i ∷ rest) ≡ 1
    go true e later = let q = eqb-true i k e in rw (← q) (count-first i rest ∙ ap suc (none_before i (suc i) n (omega arith)))
    go false e later = let q = eqb-false i k e in count_next k i rest q ∙ later q

pub by-number-once : (t k : ℕ) → k < t → count k (by_number t) ≡ 1
unfolding by_number
by-number-once t k h = once-from k 0 t (omega arith) (omega arith)

pub by-number-none : (t k : ℕ) → t ≤ k → count k (by_number t) ≡ 0
unfolding by_number
by-number-none t k h = none-past k 0 t (omega arith)

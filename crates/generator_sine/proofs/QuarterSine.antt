-- The quarter sine: its entries, the place for K in it, and one test over a whole table.
-- Assumes nothing.
use mathlib.Core.Path.{◌≡◌, ◌∙◌, ap}
use mathlib.Core.Bool.{Bool, true, false, cond}
use mathlib.Core.List.{List}
use Prim.Native.Nat.{ℕ, ◌/◌, ◌%◌, ◌<◌, ◌≤◌}
use native.Mathlib.Nat.{min-le_left}
use native.Mathlib.Omega.{arith}
use lib.Dec.{T, eqb, leb}
use borrow.Author.Tests.{leb-true}
use lib.ListN.{length, get_or}
use Rattle.base_lists.specs.Lists.{tabulate}
use Rattle.base_lists.proofs.Tests.{below}
use Rattle.base_lists.proofs.Tables.{every, agrees, tabulated-numbers, tabulate-at}
use Rattle.generator_sine.specs.Sine.{angle, first_three, polynomial, entry, quarter, index_of, magnitude}

-- A table of 2,048 numbers that agree with the rule is the quarter sine.
pub quarter-is : (xs : List ℕ) → length xs ≡ 2048 → T (every (agrees entry) 0 xs) → xs ≡ quarter
unfolding quarter
quarter-is xs n t = tabulated-numbers entry xs t ∙ ap (tabulate entry 0) n

pub quarter-at : (j : ℕ) → j < 2048 → get_or quarter j 0 ≡ entry j
unfolding quarter
quarter-at j h = tabulate-at entry 2048 j 0 h

cond_below : (b : Bool) {x y n : ℕ} → x < n → y < n → cond b x y < n
cond_below true h k = h
cond_below false h k = k

pub index_below : (k : ℕ) → index_of k < 2048
unfolding index_of
index_below k = cond_below (eqb (k / 2048 % 2) 1) (omega arith) (omega arith)

-- The magnitude of the sine of K stands in the quarter sine at the place for K.
pub magnitude-at : (k : ℕ) → get_or quarter (index_of k) 0 ≡ magnitude k
unfolding magnitude
magnitude-at k = quarter-at (index_of k) (index_below k)

pub entry-low : (j : ℕ) → entry j ≤ 4095
unfolding entry
entry-low j = min-le_left 4095 _

-- No entry is 0, and so the sine never is: one test over the 2,048 entries.
entry-positive : (j : ℕ) → j < 2048 → leb 1 (entry j) ≡ true
unfolding entry polynomial first_three angle
entry-positive j h = below (λ i. leb 1 (entry i)) 2048 tt j h

pub magnitude-positive : (k : ℕ) → 0 < magnitude k
unfolding magnitude
magnitude-positive k = leb-true 1 (entry (index_of k)) (entry-positive (index_of k) (index_below k))

pub magnitude-low : (k : ℕ) → magnitude k ≤ 4095
unfolding magnitude
magnitude-low k = entry-low (index_of k)

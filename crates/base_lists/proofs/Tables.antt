-- A table that a rule gives: one test over the whole table says that it is the rule's list, and the list has the rule's value at each place.
-- Assumes nothing.
use mathlib.Core.Path.{◌≡◌, refl, ap, ◌∙◌}
use mathlib.Core.Bool.{Bool, true, ◌&&◌}
use mathlib.Core.List.{List, [], ◌∷◌}
use Prim.Native.Nat.{ℕ, zero, suc, ◌+◌, ◌<◌}
use native.Mathlib.Nat.{add-zero, zero-add, add-suc, suc-add, le_of_suc-le-suc, not-suc-le-zero}
use lib.Dec.{T, eqb, eqb→eq}
use lib.ListN.{length, get_or}
use Rattle.base_lists.specs.Lists.{tabulate}
use Rattle.base_lists.proofs.Tests.{and_left, and_right}

-- The test `right` passes at each entry and its place, counted from i.
abbrev pub every : {A : Type 0} → (ℕ → A → Bool) → ℕ → List A → Bool
every right i [] = true
every right i (x ∷ xs) = right i x && every right (suc i) xs

-- Where each entry that passes is the rule's, a table that passes is the rule's list.
pub tabulated : {A : Type 0} (right : ℕ → A → Bool) (f : ℕ → A) → ((j : ℕ) (x : A) → T (right j x) → x ≡ f j)
    → (i : ℕ) (xs : List A) → T (every right i xs) → xs ≡ tabulate f i (length xs)
unfolding tabulate
tabulated right f valid i [] t = refl
tabulated right f valid i (x ∷ xs) t =
    rw (valid i x (and_left (right i x) (every right (suc i) xs) t))
    (ap (λ l. f i ∷ l) (tabulated right f valid (suc i) xs (and_right (right i x) (every right (suc i) xs) t)))

-- The same of numbers, each compared with the rule's.
unfoldable pub agrees : (ℕ → ℕ) → ℕ → ℕ → Bool
agrees f j x = eqb x (f j)

pub tabulated-numbers : (f : ℕ → ℕ) (xs : List ℕ) → T (every (agrees f) 0 xs) → xs ≡ tabulate f 0 (length xs)
unfolding agrees
tabulated-numbers f xs t = tabulated (agrees f) f (λ j x h. eqb→eq x (f j) h) 0 xs t

-- A rule's list of n has n entries.
pub tabulate-length : {A : Type 0} (f : ℕ → A) (i n : ℕ) → length (tabulate f i n) ≡ n
unfolding tabulate
tabulate-length f i zero = refl
tabulate-length f i (suc n) = ap suc (tabulate-length f (suc i) n)

tabulate-from : {A : Type 0} (f : ℕ → A) (i n j : ℕ) (d : A) → j < n → get_or (tabulate f i n) j d ≡ f (i + j)
unfolding tabulate
tabulate-from f i zero j d h = absurd (not-suc-le-zero h)
tabulate-from f i (suc n) zero d h = rw add-zero
tabulate-from f i (suc n) (suc j) d h = rw (add-suc, ← suc-add) (tabulate-from f (suc i) n j d (le_of_suc-le-suc h))

-- The entry at place j is the rule's value at j.
pub tabulate-at : {A : Type 0} (f : ℕ → A) (n j : ℕ) (d : A) → j < n → get_or (tabulate f 0 n) j d ≡ f j
tabulate-at f n j d h = tabulate-from f 0 n j d h ∙ ap f (zero-add j)

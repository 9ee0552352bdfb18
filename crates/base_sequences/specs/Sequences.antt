-- Entries of a list, by a test and by their place, and the lowest number at which a test fails.
-- Assumes nothing.
use Rattle.std.specs.Prelude.{ℕ, zero, suc, ◌+◌, Bool, false, cond, ◌||◌, List, [], ◌∷◌, eqb, ltb}
use Rattle.base_lists.specs.Lists.{tabulate}

-- The numbers below t in their sequence: the order by number.
unfoldable pub by_number : ℕ → List ℕ
by_number t = tabulate (λ g. g) 0 t

-- The entries that pass a test, in their sequence.
unfoldable pub keep : (ℕ → Bool) → List ℕ → List ℕ
keep p [] = []
keep p (x ∷ xs) = cond (p x) (x ∷ keep p xs) (keep p xs)

-- Whether an entry passes a test.
unfoldable pub some : (ℕ → Bool) → List ℕ → Bool
some p [] = false
some p (x ∷ xs) = p x || some p xs

-- The last entry that passes a test; 0 where none does.
unfoldable pub last_of : (ℕ → Bool) → List ℕ → ℕ
last_of p [] = 0
last_of p (x ∷ xs) = cond (some p xs) (last_of p xs) (cond (p x) x 0)

-- What f gives for the last entry that passes a test; v where none does.
unfoldable pub latest : (ℕ → Bool) → (ℕ → ℕ) → List ℕ → ℕ → ℕ
latest p f xs v = cond (some p xs) (f (last_of p xs)) v

-- The place of a number in a list, from 0: how many entries stand before it.
unfoldable pub place_of : ℕ → List ℕ → ℕ
place_of g [] = 0
place_of g (x ∷ xs) = cond (eqb x g) 0 (suc (place_of g xs))

-- Whether g stands before h.
unfoldable pub before : ℕ → ℕ → List ℕ → Bool
before g h xs = ltb (place_of g xs) (place_of h xs)

-- The lowest number below n at which a test fails, and n where it fails at none.
unfoldable pub first_failing : (ℕ → Bool) → ℕ → ℕ
first_failing p zero = zero
first_failing p (suc n) = cond (ltb (first_failing p n) n) (first_failing p n) (cond (p n) (suc n) n)

-- The sum of f at the entries of a list.
unfoldable pub total : (ℕ → ℕ) → List ℕ → ℕ
total f [] = 0
total f (x ∷ xs) = f x + total f xs

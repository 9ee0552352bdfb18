-- What is one of the numbers of two lists joined is one of the first's or of the second's.
-- Assumes nothing.
use mathlib.Core.Path.{◌≡◌, refl, sym, ◌∙◌, ap}
use mathlib.Core.Bool.{Bool, ◌||◌, or_assoc}
use mathlib.Core.List.{List, [], ◌∷◌, ◌++◌}
use Prim.Native.Nat.{ℕ}
use lib.Dec.{eqb}
use Rattle.base_lists.specs.Lists.{is_one_of}

pub is_one_of-append : (n : ℕ) (xs ys : List ℕ) → is_one_of n (xs ++ ys) ≡ (is_one_of n xs || is_one_of n ys)
unfolding is_one_of
is_one_of-append n [] ys = refl
is_one_of-append n (x ∷ xs) ys =
    ap (λ (b : Bool). eqb n x || b) (is_one_of-append n xs ys) ∙ sym (or_assoc (eqb n x) (is_one_of n xs) (is_one_of n ys))

-- What f gives for the entries of a list.
-- Assumes nothing.
use mathlib.Core.Path.{◌≡◌, refl, ap}
use mathlib.Core.List.{List, [], ◌∷◌, map}
use Prim.Native.Nat.{ℕ, suc, ◌<◌}
use native.Mathlib.Omega.{arith}
use lib.ListN.{length, get_or, drop}

-- Where f tells g apart, two lists that are alike by f are alike by g.
pub map-tells : (f g : ℕ → ℕ) (xs ys : List ℕ)
    → ((i j : ℕ) → i < length xs → j < length ys → f (get_or xs i 0) ≡ f (get_or ys j 0) → g (get_or xs i 0) ≡ g (get_or ys j 0))
    → map f xs ≡ map f ys → map g xs ≡ map g ys
map-tells f g [] [] h e = refl
map-tells f g [] (y ∷ ys) h e = absurd (omega (arith, ap length e))
map-tells f g (x ∷ xs) [] h e = absurd (omega (arith, ap length e))
map-tells f g (x ∷ xs) (y ∷ ys) h e =
    rw (
      h 0 0 (omega arith) (omega arith) (ap (λ (l : List ℕ). get_or l 0 0) e),
      map-tells f g xs ys (λ i j a b. h (suc i) (suc j) (omega arith) (omega arith)) (ap (drop 1) e),
    )

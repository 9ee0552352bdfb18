-- The turns that change no register, in the order and the words of the 1978 text's "Modifiers, Processing".
-- Assumes nothing.
use Rattle.std.specs.Prelude.{cond, ℕ, eqb, negsuc}
use Rattle.base_words.specs.Words.{low_bits, sum}
use Rattle.modifier_product.specs.Product.{less}
use Rattle.modifier_product.specs.declared.Product.{Product}
use Rattle.modifier.specs.declared.Coefficient.TheVariants.{M0, M1}
use Rattle.modifier.specs.declared.Modifier.{Modifier}
use Rattle.modifier.specs.declared.Turned.{Turned}
use Rattle.modifier.specs.Coefficients.{times}
use Rattle.modifier.specs.Modifier.{times_m1, times_m0, integer_m1, integer_m0, gives}

-- Inactive. S := 0.
unfoldable pub inactive : Modifier → Turned
inactive u = gives u 0

-- Integer mixing. S := A*M0 + B*M1, integer products.
unfoldable pub integer_mixing : Modifier → ℕ → ℕ → Turned
integer_mixing u a b = gives u (sum 20 (integer_m0 u a) (integer_m1 u b))

-- Mixing. S := A*M0 + B*M1.
unfoldable pub mixing : Modifier → ℕ → ℕ → Turned
mixing u a b = gives u (sum 20 (times_m0 u a) (times_m1 u b))

-- Either mixing, by the kind of product.
unfoldable pub mixing_by : Product → Modifier → ℕ → ℕ → Turned
mixing_by kind u a b = gives u (sum 20 (times kind M0 u a) (times kind M1 u b))

-- Signum. If A*M0 is less than B*M1, S := -1; if A*M0 equals B*M1, S := 0; if A*M0 is greater than B*M1, S := 1.
unfoldable pub signum : Modifier → ℕ → ℕ → Turned
signum u a b =
    let x = times_m0 u a in
    let y = times_m1 u b in
    gives u (cond (less x y) (low_bits 20 (negsuc 0)) (cond (eqb x y) 0 1))

-- Minimum. S := min (A*M0, B*M1).
unfoldable pub minimum : Modifier → ℕ → ℕ → Turned
minimum u a b =
    let x = times_m0 u a in
    let y = times_m1 u b in
    gives u (cond (less x y) x y)

-- Maximum. S := max (A*M0, B*M1).
unfoldable pub maximum : Modifier → ℕ → ℕ → Turned
maximum u a b =
    let x = times_m0 u a in
    let y = times_m1 u b in
    gives u (cond (less x y) y x)

-- Threshold. If A*M0 + L0 is less than 0, S := 0; if it is equal to or greater than 0, S := B*M1.
unfoldable pub threshold : Modifier → ℕ → ℕ → Turned
threshold u a b = gives u (cond (less (sum 20 (times_m0 u a) u.l0) 0) 0 (times_m1 u b))

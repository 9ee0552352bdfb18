-- The turns with poles and zeros, in the order and the words of the 1978 text's "Modifiers, Processing".
-- Assumes nothing.
use Rattle.std.specs.Prelude.{ℕ}
use Rattle.base_words.specs.Words.{sum}
use Rattle.modifier.specs.declared.Coefficient.{Coefficient}
use Rattle.modifier.specs.declared.Coefficient.TheVariants.{M0, M1}
use Rattle.modifier.specs.declared.Modifier.{Modifier}
use Rattle.modifier.specs.declared.Turned.{Turned}
use Rattle.modifier.specs.Modifier.{times_m1, times_m0, times_signal, gives, with_l1, shifted, plus_m0, plus_m1}

-- One pole. S := L1*M1 + B*L0; L1 := S.
unfoldable pub one_pole : Modifier → ℕ → Turned
one_pole u b =
    let s = sum 20 (times_m1 u u.l1) (times_signal u b u.l0) in
    gives (with_l1 u s) s

-- L1*M1 + L0*M0, the sum of products of the 1978 text's filters.
unfoldable pub filtered : Modifier → ℕ
filtered u = sum 20 (times_m1 u u.l1) (times_m0 u u.l0)

-- One zero. S := L1*M1 + L0*M0; L0 := L1; L1 := A.
unfoldable pub one_zero : Modifier → ℕ → Turned
one_zero u a = gives (shifted u a) (filtered u)

-- In the two-pole and two-zero modes x is the sum of products of a text: `filtered` of the 1978 text.
-- Two poles. S := x + A; L0 := L1; L1 := S.
unfoldable pub two_poles : Modifier → ℕ → ℕ → Turned
two_poles u x a =
    let s = sum 20 x a in
    gives (shifted u s) s

-- After a turn, M0 := M0 + B.
unfoldable pub m0_variable : Turned → ℕ → Turned
m0_variable t b = gives (plus_m0 t.unit b) t.s

-- After a turn, M1 := M1 + B.
unfoldable pub m1_variable : Turned → ℕ → Turned
m1_variable t b = gives (plus_m1 t.unit b) t.s

-- Two poles, M0 variable. As two poles; M0 := M0 + B.
unfoldable pub two_poles_m0_variable : Modifier → ℕ → ℕ → ℕ → Turned
two_poles_m0_variable u x a b = m0_variable (two_poles u x a) b

-- Two poles, M1 variable. As two poles; M1 := M1 + B.
unfoldable pub two_poles_m1_variable : Modifier → ℕ → ℕ → ℕ → Turned
two_poles_m1_variable u x a b = m1_variable (two_poles u x a) b

-- Two zeros. S := x + A; L0 := L1; L1 := A.
unfoldable pub two_zeros : Modifier → ℕ → ℕ → Turned
two_zeros u x a = gives (shifted u a) (sum 20 x a)

-- Two zeros, M0 variable. As two zeros; M0 := M0 + B.
unfoldable pub two_zeros_m0_variable : Modifier → ℕ → ℕ → ℕ → Turned
two_zeros_m0_variable u x a b = m0_variable (two_zeros u x a) b

-- Two zeros, M1 variable. As two zeros; M1 := M1 + B.
unfoldable pub two_zeros_m1_variable : Modifier → ℕ → ℕ → ℕ → Turned
two_zeros_m1_variable u x a b = m1_variable (two_zeros u x a) b

-- Either coefficient variable, by its name: what is above.
abbrev pub variable : Coefficient → Turned → ℕ → Turned
variable M0 = m0_variable
variable M1 = m1_variable

abbrev pub two_poles_variable : Coefficient → Modifier → ℕ → ℕ → ℕ → Turned
two_poles_variable M0 = two_poles_m0_variable
two_poles_variable M1 = two_poles_m1_variable

abbrev pub two_zeros_variable : Coefficient → Modifier → ℕ → ℕ → ℕ → Turned
two_zeros_variable M0 = two_zeros_m0_variable
two_zeros_variable M1 = two_zeros_m1_variable

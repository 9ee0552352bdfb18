-- The turns that keep a term in L1 for the next pass, filters aside, in the order and the words of the 1978 text's "Modifiers, Processing".
-- Assumes nothing.
use Rattle.std.specs.Prelude.{cond, ℕ, ◌-◌, ◌^◌, eqb}
use Rattle.base_words.specs.Words.{sum}
use Rattle.modifier_product.specs.Product.{opposite, half}
use Rattle.modifier.specs.declared.Modifier.{Modifier}
use Rattle.modifier.specs.declared.Turned.{Turned}
use Rattle.modifier.specs.Modifier.{times_m1, times_m0, times_signal, integer_m1, integer_m0, gives, with_l1}

-- Latch (sample and hold). S := L1; if B*M1 is not 0, L1 := A.
unfoldable pub latch : Modifier → ℕ → ℕ → Turned
latch u a b = gives (with_l1 u (cond (eqb (times_m1 u b) 0) u.l1 a)) u.l1

-- -epsilon: a word with all bits set.
abbrev pub minus_epsilon : ℕ
minus_epsilon = 2 ^ 20 - 1

-- Zero-crossing pulser. Temp0 := B*M0; Temp1 := L1*M1; S := 0 if Temp1 is 0, z if Temp0 is 0, else -epsilon (all bits set) if Temp0*Temp1 is negative, else 0; L1 := Temp0.
-- z is -epsilon in the 1978 text, where Temp0 that has come to 0 is a crossing. The older text has no such case: z is 0.
unfoldable pub pulser : Modifier → ℕ → ℕ → Turned
pulser u b z =
    let temp0 = times_m0 u b in
    let temp1 = times_m1 u u.l1 in
    gives (with_l1 u temp0) (cond (eqb temp1 0) 0 (cond (eqb temp0 0) z (cond (opposite temp0 temp1) minus_epsilon 0)))

-- Amplitude modulation. S := L1*M1; L1 := A*((B+1)/2).
unfoldable pub amplitude_modulation : Modifier → ℕ → ℕ → Turned
amplitude_modulation u a b = gives (with_l1 u (times_signal u a (half b))) (times_m1 u u.l1)

-- Four-quadrant multiplication. S := L1*M1; L1 := A*B.
unfoldable pub four_quadrant : Modifier → ℕ → ℕ → Turned
four_quadrant u a b = gives (with_l1 u (times_signal u a b)) (times_m1 u u.l1)

-- L0 + L1*M0, an integer product: the noise of the 1978 text.
unfoldable pub noise : Modifier → ℕ
noise u = sum 20 u.l0 (integer_m0 u u.l1)

-- Uniform noise, with n the noise of a text. S := n; L1 := S.
unfoldable pub uniform_noise : Modifier → ℕ → Turned
uniform_noise u n = gives (with_l1 u n) n

-- Triggered uniform noise. S := L0 + L1*M0; if B*M1, an integer product, is not 0, L1 := S.
unfoldable pub triggered_noise : Modifier → ℕ → Turned
triggered_noise u b = gives (with_l1 u (cond (eqb (integer_m1 u b) 0) u.l1 (noise u))) (noise u)

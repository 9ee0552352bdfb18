-- The function that invokes a delay unit (the 1978 text, "Modifiers, Processing", 00111).
-- Assumes nothing.
use Rattle.std.specs.Prelude.{ℕ, ◌%◌, ◌^◌, Bool, eqb}
use Rattle.base_words.specs.Words.{sum}
use Rattle.modifier.specs.declared.Modifier.{Modifier}
use Rattle.modifier.specs.declared.Turned.{Turned}
use Rattle.modifier.specs.Modifier.{function_of, updated, times_m0, times_m1, gives}

-- Whether a modifier invokes a delay unit.
abbrev pub invoking : Modifier → Bool
invoking u = eqb (function_of u) 0b00111

-- The unit's number is the low 5 bits of MRM.
abbrev pub unit_of : Modifier → ℕ
unit_of u = u.mrm % 2 ^ 5

-- Temp0 := A + DM*M1, with DM the word that the unit gives.
abbrev pub temp0 : Modifier → ℕ → ℕ → ℕ
temp0 u a dm = sum 20 a (times_m1 u dm)

-- S := L0 + L1*M0; L0 := DM; L1 := Temp0. The word that goes to the unit, DM := Temp0, is L1 afterwards.
unfoldable pub invoke_delay : Modifier → ℕ → ℕ → Turned
invoke_delay u a dm = gives (updated u u.m0 u.m1 dm (temp0 u a dm)) (sum 20 u.l0 (times_m0 u u.l1))

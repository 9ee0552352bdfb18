-- A table of a modifier's functions by their codes, and what it tells of a code: each text has its own table.
-- Assumes nothing.
use Rattle.std.specs.Prelude.{Bool, true, false, cond, List, [], ◌∷◌, ℕ, eqb}
use Rattle.modifier.specs.declared.Modifier.{Modifier}
use Rattle.modifier.specs.declared.Turned.{Turned}
use Rattle.modifier.specs.Modifier.{gives}

-- A function: its code, whether it reads A late, and its turn with A and B.
pub record Function : Type 0 where
  pub code : ℕ
  pub is_late : Bool
  pub turn : Modifier → ℕ → ℕ → Turned

-- A function whose A, in modifier-this, sees the writes up to m-4.
abbrev pub early : ℕ → (Modifier → ℕ → ℕ → Turned) → Function
early code turn = record { code = code; is_late = false; turn = turn }

-- A function whose A, in modifier-this, sees the writes up to m-1.
abbrev pub late : ℕ → (Modifier → ℕ → ℕ → Turned) → Function
late code turn = record { code = code; is_late = true; turn = turn }

-- The codes of a table.
abbrev pub codes_of : List Function → List ℕ
codes_of [] = []
codes_of (f ∷ fs) = f.code ∷ codes_of fs

-- Whether the function with a code reads A late.
abbrev pub late_in : List Function → ℕ → Bool
late_in [] n = false
late_in (f ∷ fs) n = cond (eqb n f.code) f.is_late (late_in fs n)

-- The turn of the function with a code. A code that is not in the table changes nothing, and S is 0.
abbrev pub turn_in : List Function → ℕ → Modifier → ℕ → ℕ → Turned
turn_in [] n u a b = gives u 0
turn_in (f ∷ fs) n u a b = cond (eqb n f.code) (f.turn u a b) (turn_in fs n u a b)

-- Question 6 as the code asks it, entry by entry, with a mark for each number that is past.
-- Readers need only `each_once`, to which a law joins this. Assumes nothing.
use Rattle.std.specs.Prelude.{ℕ, Bool, true, false, not, cond, ◌&&◌, List, [], ◌∷◌, ltb, get_or, set}
use Rattle.layout.specs.Machine.{Order}

-- A number below T that has no mark yet.
unfoldable pub unmarked : ℕ → List Bool → ℕ → Bool
unmarked t marks g = ltb g t && not (get_or marks g false)

-- The marks once such a number has its mark; any other leaves them.
unfoldable pub number_marked : ℕ → List Bool → ℕ → List Bool
number_marked t marks g = cond (unmarked t marks g) (set marks g true) marks

-- Each entry in turn is such a number.
unfoldable pub each_unmarked : ℕ → List Bool → Order → Bool
each_unmarked t marks [] = true
each_unmarked t marks (g ∷ order) = unmarked t marks g && each_unmarked t (set marks g true) order

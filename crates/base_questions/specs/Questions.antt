-- Questions asked one after the other (document 01, "Questions at the door": no gives the number; yes to all gives 0).
-- Assumes nothing.
use Rattle.std.specs.Prelude.{ℕ, Bool, cond, List, [], ◌∷◌}

-- A question: the number that a no gives, and whether the answer is yes.
pub record Question : Type 0 where
  pub number : ℕ
  pub yes : Bool

-- The number of the first question that is answered no, and 0 where all are answered yes.
unfoldable pub asked : List Question → ℕ
asked [] = 0
asked (q ∷ qs) = cond q.yes (asked qs) q.number

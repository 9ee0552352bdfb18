-- Questions 10 and 12 as the code asks them: the or of the words, and a mark for each unit that is named.
-- Readers need only `memory_good` and `named_once`, to which laws join these. Assumes nothing.
use Rattle.std.specs.Prelude.{ℕ, Bool, true, false, cond, not, ◌&&◌, List, get_or, set, fold}
use Rattle.std.specs.Int.Bits.{bit_or}
use Rattle.layout.specs.Machine.{Machine, Memory}
use Rattle.delay_questions.specs.Questions.{invokes, named_by}

-- The or of all words.
unfoldable pub ored : Memory → ℕ
ored memory = fold bit_or 0 memory

-- Modifier k invokes no unit that has a mark.
unfoldable pub unmarked : Machine → List Bool → ℕ → Bool
unmarked m marks k = not (invokes m k && get_or marks (named_by m k) false)

-- The marks with that of the unit that modifier k invokes.
unfoldable pub unit_marked : Machine → List Bool → ℕ → List Bool
unit_marked m marks k = cond (invokes m k) (set marks (named_by m k) true) marks

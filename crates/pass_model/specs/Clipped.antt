-- Which generator-this words have left their range in a pass (document 02, Q-6). The words themselves still wrap: no step looks at a mark.
-- Assumes nothing.
use Rattle.std.specs.Prelude.{ℕ, ◌%◌, ◌^◌, Bool, true, false, cond, ◌&&◌, List, [], ◌∷◌, ◌++◌, ◌≡◌, eqb, get_or, set}
use Rattle.base_lists.specs.Lists.{zeros}
use Rattle.base_words.specs.Words.{leaves}
use Rattle.layout.specs.Layout.{quadrant_words}
use Rattle.layout.specs.Machine.{Order, Items, Sums}
use Rattle.pass_sums.specs.Sums.{sum_at}
use Rattle.pass_model.specs.Generators.{Generators, Contribution, State, contribution_of, step, steps}

-- A mark for each generator-this word, 0 or 1; none is set.
abbrev pub Marks : Type 0
Marks = List ℕ

abbrev pub no_marks : Marks
no_marks = zeros quadrant_words

-- Whether the signed sum that a turn makes in generator-this leaves its range: P plus the read item, of which the low 20 bits count, where it replaces a word;
-- the word plus P where P is added into it.
unfoldable pub sum_leaves : Sums → Contribution → ℕ → Bool
sum_leaves s b item =
    cond b.replaces (leaves 20 b.p (item % 2 ^ 20))
    (cond b.adds (leaves 20 (sum_at s b.word) b.p)
    false)

-- Whether generator g, taken from a state, makes a sum in word w that leaves its range.
unfoldable pub leaves_at : Generators → Items → State → ℕ → ℕ → Bool
leaves_at of items s g w =
    let b = contribution_of of s g in
    eqb b.word w && sum_leaves s.sums b (get_or items s.reads 0)

-- The marks after a sum in word w: its mark is set where the sum left its range. Nothing clears a mark.
unfoldable pub marked_at : Marks → ℕ → Bool → Marks
marked_at marks w left = cond left (set marks w 1) marks

-- Generator g is taken from a state.
unfoldable pub marked : Generators → Items → State → Marks → ℕ → Marks
marked of items s marks g =
    let b = contribution_of of s g in
    marked_at marks b.word (sum_leaves s.sums b (get_or items s.reads 0))

-- The generators of an order are taken one after the other.
unfoldable pub marked_by : Generators → Items → State → Marks → Order → Marks
marked_by of items s marks [] = marks
marked_by of items s marks (g ∷ order) = marked_by of items (step of items s g) (marked of items s marks g) order

-- Some generator of an order, taken from the state that those before it left, made a sum in word w that left its range.
pub record SumLeft (of : Generators) (items : Items) (s : State) (order : Order) (w : ℕ) : Type 0 where
  pub earlier : Order
  pub generator : ℕ
  pub later : Order
  pub taken : order ≡ earlier ++ (generator ∷ later)
  pub left : leaves_at of items (steps of items s earlier) generator w ≡ true

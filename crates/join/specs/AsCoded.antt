-- The joined machine as the code stores it. Readers need only `joined`, to which a law joins this.
-- Assumes nothing.
use Rattle.std.specs.Prelude.{ℕ, ◌+◌, Bool, false, cond, List, get_or, set, drop}
use Rattle.base_fills.specs.Fills.{filled}
use Rattle.layout.specs.Layout.{generator_at, quadrant_at, quadrant_words, dac_at, dacs, t_at, n_at, update_ticks_at}
use Rattle.layout.specs.Machine.{Machine, ticks_of, update_ticks}
use Rattle.pass_sums.specs.Sums.{generator_this, generator_last}
use Rattle.join_questions.specs.AsCoded.{dacs_used_at}

-- Of n words from a place on, those that are marked are another run's.
unfoldable pub chosen : List ℕ → ℕ → List ℕ → List Bool → ℕ → ℕ → List ℕ
chosen m at words used first n = filled at 1 n (λ k. cond (get_or used (first + k) false) (get_or words k 0) (get_or m (at + k) 0)) m

-- The second machine's generators after the first's T.
unfoldable pub copied : Machine → Machine → Machine
copied a b = filled (generator_at (ticks_of a)) 1 (generator_at (ticks_of b)) (λ k. get_or b k 0) a

-- Its words at the same places, from one on, where they are marked.
abbrev pub brought_from : ℕ → ℕ → ℕ → Machine → List Bool → Machine → Machine
brought_from at first n b used m = chosen m at (drop at b) used first n

unfoldable pub brought_used : Machine → List Bool → Machine → Machine
brought_used b used m =
    brought_from (dac_at 0) dacs_used_at dacs b used
    (brought_from (quadrant_at generator_last) 0 quadrant_words b used (brought_from (quadrant_at generator_this) 0 quadrant_words b used m))

-- All stores in sequence.
unfoldable pub stored : Machine → Machine → List Bool → Machine
stored a b used =
    set (set (brought_used b used (copied a b)) t_at (ticks_of a + ticks_of b)) update_ticks_at (update_ticks (ticks_of a + ticks_of b) (get_or a n_at 0))

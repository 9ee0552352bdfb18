-- The rule of Q-2 by what is kept, whatever the words are: by a machine's own it is the rule by its counts. Assumes nothing.
use Rattle.std.specs.Prelude.{Bool, cond, ◌&&◌, eqb, leb, get_or, set}
use Rattle.any_order_sums.specs.Places.{Kept, all_readers_at, awaiting_at, written_at, parted_at, shared_at, order_free_at}

-- The rule by what is kept, and its answer put at its place.
unfoldable pub order_free_by : Kept → Bool
order_free_by k = eqb (get_or k awaiting_at 0) 0 && eqb (get_or k parted_at 0) 0 && leb (get_or k written_at 0) 1 && leb (get_or k all_readers_at 0) 1 && eqb (get_or k shared_at 0) 0

unfoldable pub answered : Kept → Kept
answered k = set k order_free_at (cond (order_free_by k) 1 0)

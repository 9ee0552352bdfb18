-- Counts and their sums brought up to date, one count at a time, whatever the words are. From a machine's own words this gives the own ones of the machine
-- as it then is (the claim `change-own`), so readers need only what these are. Assumes nothing.
use Rattle.std.specs.Prelude.{ℕ, ◌+◌, ◌-◌, ◌/◌, ◌%◌, ◌^◌, Bool, cond, not, ◌==◌, nat_lt, slice_index, slice_set}
use Rattle.layout.specs.Widths.{gfm_bits}
use Rattle.any_order_sums.specs.Places.{Kept, writers_at, feeders_at, others_at, fed_at, written_at, parted_at, shared_at}

-- A word raised or lowered by 1: what is added, and the sum as a word.
abbrev pub step_of : Bool → ℕ
step_of up = cond up 1 4294967295

unfoldable pub stepped : Bool → ℕ → ℕ
stepped up n = (n + step_of up) % 2 ^ 32

-- The word at place i raised or lowered by 1; and only if it is to be.
unfoldable pub moved : Bool → Kept → ℕ → Kept
moved up k i = slice_set k i (stepped up (slice_index k i))

unfoldable pub moved_if : Bool → Bool → Kept → ℕ → Kept
moved_if moves up k i = cond moves (moved up k i) k

-- A count that is now n was raised from 0, or lowered to 0: some are there now, or none any more.
abbrev pub at_edge : Bool → ℕ → Bool
at_edge up n = n == cond up 1 0

-- It was raised from 1, or lowered to 1.
abbrev pub past_edge : Bool → ℕ → Bool
past_edge up n = n == cond up 2 1

-- The place of the other kind on the same sum word: of adding generators for 0111s, and the other way.
abbrev pub other_kind : ℕ → ℕ
other_kind i = (i + 64) % 128

-- One source more or fewer feeds DAC d.
unfoldable pub fed_moved : Bool → Kept → ℕ → Kept
fed_moved up k d = moved_if (past_edge up (stepped up (slice_index k (fed_at d)))) up (moved up k (fed_at d)) parted_at

-- The sums, where the count at place i has begun or ceased to be 0.
unfoldable pub sums_moved : Bool → Kept → ℕ → Kept
sums_moved up k i =
    cond (nat_lt i (writers_at 0)) (moved_if (not (slice_index k (other_kind i) == 0)) up k shared_at)
    (cond (nat_lt i (feeders_at 0 0)) (moved up k written_at)
    (cond (nat_lt i others_at) (fed_moved up k ((i - feeders_at 0 0) / 2 ^ gfm_bits))
    k))

-- One generator of the kind at place i more or fewer, with the sums.
unfoldable pub kind_moved : Bool → Kept → ℕ → Kept
kind_moved up k i = cond (at_edge up (stepped up (slice_index k i))) (sums_moved up (moved up k i) i) (moved up k i)

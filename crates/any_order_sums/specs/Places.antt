-- Where each word stands of what is kept beside a machine (document 02, Q-13): counts of its generators, sums of them, and the answer.
-- Assumes nothing.
use Rattle.std.specs.Prelude.{ℕ, ◌+◌, ◌*◌, List}

-- The words that are kept.
abbrev pub Kept : Type 0
Kept = List ℕ

-- Where each count stands: of the 0111s and of the adding generators of word w; of the writers from source v; of the feeders of DAC d from source v.
abbrev pub readers_at : ℕ → ℕ
readers_at w = w

abbrev pub adders_at : ℕ → ℕ
adders_at w = 64 + w

abbrev pub writers_at : ℕ → ℕ
writers_at v = 128 + v

abbrev pub feeders_at : ℕ → ℕ → ℕ
feeders_at d v = 256 + 128 * d + v

-- Of the generators that are none of these; of all 0111s; of the generators that wait and have a lower neighbour that can trigger.
abbrev pub others_at : ℕ
others_at = 2304

abbrev pub all_readers_at : ℕ
all_readers_at = 2305

abbrev pub awaiting_at : ℕ
awaiting_at = 2306

-- Where each sum stands: from how many sources DAC d is fed; from how many data are written; how many DACs are fed from more than one; how many sum words have a 0111 and an adding generator.
abbrev pub fed_at : ℕ → ℕ
fed_at d = 2307 + d

abbrev pub written_at : ℕ
written_at = 2323

abbrev pub parted_at : ℕ
parted_at = 2324

abbrev pub shared_at : ℕ
shared_at = 2325

-- The answer: 1 where every order leaves the same, else 0.
abbrev pub order_free_at : ℕ
order_free_at = 2326

abbrev pub kept_length : ℕ
kept_length = 2327

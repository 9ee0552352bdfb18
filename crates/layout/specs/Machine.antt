-- A machine is a run of words; what stands at its places, by name.
-- Assumes nothing.
use Rattle.std.specs.Prelude.{ℕ, ◌+◌, ◌-◌, ◌/◌, ◌%◌, ◌^◌, ◌≤◌, List, length, slice_index, slice_set}
use Rattle.layout.specs.Layout.{machine_length, generator_at, modifier_at, t_at, n_at, counter_at, update_ticks_at, GSUM, GFM, GMODE, MRM, MMODE}
use Rattle.layout.specs.Widths.{linger_bits}

-- The words of a machine; an order of the generators, by number; read items; places for written items; commands.
abbrev pub Machine : Type 0
Machine = List ℕ

abbrev pub Order : Type 0
Order = List ℕ

abbrev pub Items : Type 0
Items = List ℕ

abbrev pub Places : Type 0
Places = List ℕ

abbrev pub Commands : Type 0
Commands = List ℕ

-- Delay memory.
abbrev pub Memory : Type 0
Memory = List ℕ

-- Sum memory: four quadrants of words.
abbrev pub Sums : Type 0
Sums = List (List ℕ)

-- A run that has all of a machine's words. What a function asks of a machine's length is this, never the length itself.
pub record Reaches (m : Machine) : Type 0 where
  pub all : machine_length ≤ length m

-- T.
abbrev pub ticks_of : Machine → ℕ
ticks_of m = slice_index m t_at

-- The update ticks of T and N: N-T-8, or 0 if that is negative. A difference of these numbers stops at 0 and never wraps.
abbrev pub update_ticks : ℕ → ℕ → ℕ
update_ticks t n = n - t - 8

-- Those of a machine's own T and N, whatever stands in the word for them.
abbrev pub update_ticks_of : Machine → ℕ
update_ticks_of m = update_ticks (ticks_of m) (slice_index m n_at)

-- A machine with that count in its word.
unfoldable pub with_update_ticks : Machine → Machine
with_update_ticks m = slice_set m update_ticks_at (update_ticks_of m)

-- What a Linger's number is compared with: the low bits of the pass counter, as many as the number has.
abbrev pub low_counter : Machine → ℕ
low_counter m = slice_index m counter_at % 2 ^ linger_bits

-- GMODE, GSUM and GFM of generator g.
abbrev pub gmode_at : Machine → ℕ → ℕ
gmode_at m g = slice_index m (generator_at g + GMODE)

abbrev pub gsum_at : Machine → ℕ → ℕ
gsum_at m g = slice_index m (generator_at g + GSUM)

abbrev pub gfm_at : Machine → ℕ → ℕ
gfm_at m g = slice_index m (generator_at g + GFM)

-- MRM of modifier k, and its function, the left 5 of MMODE's 9 bits.
abbrev pub mrm_at : Machine → ℕ → ℕ
mrm_at m k = slice_index m (modifier_at k + MRM)

abbrev pub function_at : Machine → ℕ → ℕ
function_at m k = slice_index m (modifier_at k + MMODE) / 2 ^ 4

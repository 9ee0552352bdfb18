-- TIMER and TICKS (the 1978 text, "Commands"; document 01, "Commands, update, host"; document 02, Q-7 and Q-9).
-- Assumes nothing.
use Rattle.std.specs.Prelude.{ℕ, ◌+◌, Bool, false, cond, not, pos, ◌-ℤ◌, ◌==◌, nat_le, slice_set}
use Rattle.base_words.specs.Words.{low_bits}
use Rattle.layout.specs.Layout.{t_at, n_at, counter_at, lingering_at, linger_pass_at, overrun_at}
use Rattle.layout.specs.Machine.{Machine, with_update_ticks, low_counter}
use Rattle.layout.specs.Widths.{linger_bits}
use Rattle.command_fields.specs.Fields.{field, flag, data_of}

-- The pass counter is set: none of its bits stays.
unfoldable pub counter_set : Machine → ℕ → Machine
counter_set m n = slice_set m counter_at n

-- How many passes the number n is behind the counter, both of 20 bits, modulo 2^20.
unfoldable pub behind : Machine → ℕ → ℕ
behind m n = low_bits linger_bits (pos (low_counter m) -ℤ pos n)

-- A Linger to n that isn't at the counter nor at most 4,096 passes behind it waits.
unfoldable pub waits_for : Machine → ℕ → Bool
waits_for m n = not (nat_le (behind m n) 4096)

-- A Linger at the counter does nothing; one 1 to 4,096 passes behind sets overrun; a waiting one sets lingering to 1 and the Linger pass to its number.
unfoldable pub lingered : Machine → ℕ → Machine
lingered m n =
    cond (waits_for m n) (slice_set (slice_set m lingering_at 1) linger_pass_at n)
    (cond (behind m n == 0) m (slice_set m overrun_at 1))

-- TIMER: TT 01 sets the pass counter to data, whose 20 bits leave its high bits 0; 10 is a Linger to data; 11 clears the pass counter and then is a Linger to data.
abbrev pub tt_of : ℕ → ℕ
tt_of c = field 31 32 c

unfoldable pub timed : Machine → ℕ → Machine
timed m c =
    cond (tt_of c == 0b01) (counter_set m (data_of c))
    (cond (tt_of c == 0b10) (lingered m (data_of c))
    (cond (tt_of c == 0b11) (lingered (counter_set m 0) (data_of c))
    m))

-- Whether it waits.
unfoldable pub timer_waits : Machine → ℕ → Bool
timer_waits m c =
    cond (tt_of c == 0b10) (waits_for m (data_of c))
    (cond (tt_of c == 0b11) (waits_for (counter_set m 0) (data_of c))
    false)

-- TICKS: Q 0 sets T = data + 1, Q 1 sets N = data + 2, and either sets the update ticks as well. Its data are the right ten bits of the 20.
abbrev pub ticks_data : ℕ → ℕ
ticks_data c = field 14 23 c

unfoldable pub ticks_set : Machine → ℕ → Machine
ticks_set m c = with_update_ticks (cond (flag 32 c) (slice_set m n_at (ticks_data c + 2)) (slice_set m t_at (ticks_data c + 1)))

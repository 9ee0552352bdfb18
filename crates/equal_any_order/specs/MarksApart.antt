-- A machine on which equal orders set different marks (document 02, Q-6): the same two additions leave the range in one order and not in the other.
-- Assumes nothing.
use Rattle.std.specs.Prelude.{◌+◌, set}
use Rattle.layout.specs.Layout.{generator_at, quadrant_at, GK, GL}
use Rattle.layout.specs.Machine.{Machine}
use Rattle.pass_sums.specs.Sums.{generator_this}
use Rattle.equal_orders.specs.WorkedExamples.{of_two}

-- T 2; generators 0 and 1 are sawtooths in 1111 (GMODE 961) on word 0 with GL 4,095, and GK is 524,160 and -524,160: P is 262,016 and -262,016.
-- Word 0 of generator-this begins at 400,000. So by 0, 1 it goes to 662,016, out of its range, and back; by 1, 0 it goes to 137,984 and back.
unfoldable pub up_and_down : Machine
up_and_down =
    let m = set (set (of_two 961 961 0 0 0 0) (generator_at 0 + GK) 524160) (generator_at 0 + GL) 4095 in
    let n = set (set m (generator_at 1 + GK) 524416) (generator_at 1 + GL) 4095 in
    set n (quadrant_at generator_this) 400000

-- A machine on which two orders that agree part in the second pass (document 02, Q-14: why no generator may be in 1001).
-- Assumes nothing.
use Rattle.std.specs.Prelude.{[], ◌∷◌, set}
use Rattle.layout.specs.Layout.{t_at}
use Rattle.layout.specs.Machine.{Machine, Order, with_update_ticks}
use Rattle.machine.specs.Questions.{fresh_machine}
use Rattle.pass_laws.specs.Passes.{PassData}

-- T 3. Generator 0 is in 1110 with GP 1 and GQ 16,777,215, so that it triggers in the first pass; it adds to word 5.
-- Generator 1 waits on word 0 with GL 4,095. Generator 2 is a 0111 on word 0.
unfoldable pub woken_later : Machine
woken_later =
    set (set (set (set (set (set (set (with_update_ticks (set fresh_machine t_at 3)) 5 1) 6 16777215) 8 5) 10 898) 18 4095) 21 578) 32 450

-- Generator 1 before generator 2, and after it.
abbrev pub woken_first : Order
woken_first = 0 ∷ 1 ∷ 2 ∷ []

abbrev pub woken_last : Order
woken_last = 0 ∷ 2 ∷ 1 ∷ []

-- One item, 0, and no place.
abbrev pub one_item : PassData
one_item = record { items = 0 ∷ []; places = [] }

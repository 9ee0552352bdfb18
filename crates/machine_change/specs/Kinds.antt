-- The changes that there are, by the numbers of their kinds.
-- Assumes nothing.
use Rattle.std.specs.Prelude.{ℕ, Option, Some, None, cond, eqb}
use Rattle.machine_change.specs.declared.Register.{Register}
use Rattle.machine_change.specs.declared.Register.TheVariants.{Gmode, Gsum, Gfm, Dac}
use Rattle.machine_change.specs.declared.PartialChange.{PartialChange}
use Rattle.machine_change.specs.declared.PartialChange.TheVariants.{Sets, TickMore, TickFewer}
use Rattle.machine_change.specs.Change.{Change, gmode_change, gsum_change, gfm_change, dac_change, tick_more, tick_fewer}

-- The kind of a change of a register.
abbrev pub kind_of : Register → ℕ
kind_of Gmode = gmode_change
kind_of Gsum = gsum_change
kind_of Gfm = gfm_change
kind_of Dac = dac_change

-- A change by its numbers. One of T names no generator and no value.
abbrev pub change_of_kind : PartialChange → Change
change_of_kind (Sets register generator value) = record { kind = kind_of register; generator = generator; value = value }
change_of_kind TickMore = record { kind = tick_more; generator = 0; value = 0 }
change_of_kind TickFewer = record { kind = tick_fewer; generator = 0; value = 0 }

-- The change of a kind, a generator and a value, of which one of T looks at neither of the last two; there is none of another kind.
abbrev pub of_numbers : Change → Option PartialChange
of_numbers c =
    cond (eqb c.kind gmode_change) (Some (Sets Gmode c.generator c.value))
    (cond (eqb c.kind gsum_change) (Some (Sets Gsum c.generator c.value))
    (cond (eqb c.kind gfm_change) (Some (Sets Gfm c.generator c.value))
    (cond (eqb c.kind dac_change) (Some (Sets Dac c.generator c.value))
    (cond (eqb c.kind tick_more) (Some TickMore)
    (cond (eqb c.kind tick_fewer) (Some TickFewer) None)))))

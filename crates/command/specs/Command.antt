-- One command in its turn (document 01, "Commands, update, host").
-- Assumes nothing.
use Rattle.std.specs.Prelude.{ℕ, Bool, false, cond, eqb, ltb}
use Rattle.layout.specs.Machine.{Machine}
use Rattle.command_fields.specs.Fields.{code5}
use Rattle.command_generator.specs.GeneratorLoads.{after_generator_load}
use Rattle.command_modifier.specs.ModifierLoads.{after_modifier_load}
use Rattle.command_misc.specs.Misc.{miscellany}
use Rattle.command_timer.specs.Timer.{timed, timer_waits, ticks_set}
use Rattle.command_delay.specs.DelayLoads.{loaded_dly}
use Rattle.command_built.specs.Built.{command_refusal}

-- What a command that passes its questions does, by its code: MISC, DLY, TIMER, TICKS, and the loads, of a generator's registers below 11000 and else of a modifier's.
unfoldable pub done : Machine → ℕ → Machine
done m c =
    cond (eqb (code5 c) 0b00000) (miscellany m c)
    (cond (eqb (code5 c) 0b00001) (loaded_dly m c)
    (cond (eqb (code5 c) 0b00010) (timed m c)
    (cond (eqb (code5 c) 0b00011) (ticks_set m c)
    (cond (ltb (code5 c) 0b11000) (after_generator_load m c)
    (after_modifier_load m c)))))

-- Whether it is a Linger that waits.
unfoldable pub waits : Machine → ℕ → Bool
waits m c = cond (eqb (code5 c) 0b00010) (timer_waits m c) false

-- The machine after a command's turn: a refused command leaves it as it is.
unfoldable pub after_command : Machine → ℕ → Machine
after_command m c = cond (eqb (command_refusal c) 0) (done m c) m

-- Whether a command is taken and waits.
unfoldable pub taken_waiting : Machine → ℕ → Bool
taken_waiting m c = cond (eqb (command_refusal c) 0) (waits m c) false

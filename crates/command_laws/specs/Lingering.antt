-- Which command an update ended with, where that command waits (document 01, "Commands, update, host").
-- Assumes nothing.
use Rattle.std.specs.Prelude.{ℕ, ◌-◌, ◌<◌, true, ◌≡◌, length, get_or}
use Rattle.layout.specs.Layout.{lingering_at, linger_pass_at}
use Rattle.layout.specs.Machine.{Machine, Commands}
use Rattle.command_fields.specs.Fields.{data_of}
use Rattle.command.specs.Command.{after_command, taken_waiting}
use Rattle.command_update.specs.Update.{UpdateOutcome}

-- How many commands were taken, and the last of them.
abbrev pub taken_from : Commands → UpdateOutcome → ℕ
taken_from cs r = length cs - length r.rest

abbrev pub last_taken : Commands → UpdateOutcome → ℕ
last_taken cs r = get_or cs (taken_from cs r - 1) 0

-- Of the commands at least one was taken, and the last one is a Linger that waits, by the machine that those before it left: lingering is 1 and the Linger pass is its number.
pub record LastWaits (cs : Commands) (r : UpdateOutcome) : Type 0 where
  pub some : 0 < taken_from cs r
  pub before : Machine
  pub waits : taken_waiting before (last_taken cs r) ≡ true
  pub machine : r.machine ≡ after_command before (last_taken cs r)
  pub lingering : get_or r.machine lingering_at 0 ≡ 1
  pub number : get_or r.machine linger_pass_at 0 ≡ data_of (last_taken cs r)

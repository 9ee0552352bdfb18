-- An order as the code has it: how many entries there are, in a run that has room for more.
-- Assumes nothing.
use Rattle.std.specs.Prelude.{◌≤◌, Option, None, Some, ⊤, length, take}
use Rattle.layout.specs.Machine.{Order}
use Rattle.file_order.specs.declared.Entries.{Entries}

-- The entries that there are.
abbrev pub filled_part : Entries → Order
filled_part filled = take filled.count filled.entries

-- Its run has room for them.
abbrev pub InRoom : Option Entries → Type 0
InRoom (Some filled) = filled.count ≤ length filled.entries
InRoom None = ⊤

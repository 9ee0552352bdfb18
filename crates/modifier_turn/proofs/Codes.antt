-- The codes of the table are those that are built.
-- Assumes nothing.
use mathlib.Core.Path.{◌≡◌, refl}
use Rattle.layout_codes.specs.BuiltCodes.{built_functions}
use Rattle.modifier.specs.Functions.{codes_of}
use Rattle.modifier_turn.specs.Turn.{functions}

pub codes-built : codes_of functions ≡ built_functions
unfolding built_functions
codes-built = refl

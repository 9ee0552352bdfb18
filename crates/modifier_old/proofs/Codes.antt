-- The codes of the table are those that are built.
-- Assumes nothing.
use mathlib.Core.Path.{◌≡◌, refl}
use Rattle.layout_codes.specs.BuiltCodes.{old_built_functions}
use Rattle.modifier.specs.Functions.{codes_of}
use Rattle.modifier_old.specs.OldTurn.{old_functions}

pub old-codes-built : codes_of old_functions ≡ old_built_functions
unfolding old_built_functions
old-codes-built = refl

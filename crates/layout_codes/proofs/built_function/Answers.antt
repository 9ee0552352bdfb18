-- `layout_codes::built_function` meets its contract: one test over the 32 codes.
-- Assumes nothing.
use mathlib.Core.Path.{◌∙◌}
use Rattle.base_lists.proofs.Masks.{tells, bit-tells}
use Rattle.base_lists.specs.Lists.{is_one_of}
use Rattle.layout_codes.specs.BuiltCodes.{built_functions, built_function}
use Rattle.layout_codes.proofs.built_function.Goals as goal

pub returns : goal.returns
unfolding built_function built_functions is_one_of tells
returns c = c.bit.ensures ∙ bit-tells _ built_functions 32 tt _ c.requires

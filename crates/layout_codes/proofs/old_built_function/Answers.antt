-- `layout_codes::old_built_function` meets its contract: one test over the 32 codes.
-- Assumes nothing.
use mathlib.Core.Path.{◌∙◌}
use Rattle.base_lists.proofs.Masks.{tells, bit-tells}
use Rattle.base_lists.specs.Lists.{is_one_of}
use Rattle.layout_codes.specs.BuiltCodes.{old_built_functions, old_built_function}
use Rattle.layout_codes.proofs.old_built_function.Goals as goal

pub returns : goal.returns
unfolding old_built_function old_built_functions is_one_of tells
returns c = c.bit.ensures ∙ bit-tells _ old_built_functions 32 tt _ c.requires

-- `layout_codes::built_mode` meets its contract: one test over the 16 numbers.
-- Assumes nothing.
use mathlib.Core.Path.{◌∙◌}
use mathlib.Core.List.{[], ◌∷◌}
use Rattle.base_lists.specs.Lists.{is_one_of}
use Rattle.base_lists.proofs.Masks.{tells, bit-tells}
use Rattle.layout_codes.specs.BuiltCodes.{inactive, line, table, rounded_table, built_mode}
use Rattle.layout_codes.proofs.built_mode.Goals as goal

pub returns : goal.returns
unfolding built_mode tells is_one_of
returns c = c.bit.ensures ∙ bit-tells _ (inactive ∷ line ∷ table ∷ rounded_table ∷ []) 16 tt c.args.p c.requires

-- `parts_levels::silent_level` meets its contract: a row of levels by the envelope mode.
-- Assumes nothing.
use mathlib.Core.Path.{refl}
use Rattle.layout_texts.specs.declared.Text.TheVariants.{Of1978, Old}
use Rattle.parts_levels.proofs.SilentLevels.{level-low}
use Rattle.parts_levels.proofs.silent_level.Goals as goal

pub returns-in-Of1978 : goal.returns-in-Of1978
returns-in-Of1978 c = rw (c.in-Of1978.is, c.wide.ensures) (refl, level-low Of1978 c.args.gmode)

pub returns-in-Old : goal.returns-in-Old
returns-in-Old c = rw (c.in-Old.is, c.wide-in-Old.ensures) (refl, level-low Old c.args.gmode)

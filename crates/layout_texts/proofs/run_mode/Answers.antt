-- `layout_texts::run_mode` meets its contract: the run mode by the words at their places.
-- Assumes nothing.
use mathlib.Core.Path.{refl}
use Rattle.layout_texts.proofs.run_mode.Goals as goal

pub returns-in-Of1978 : goal.returns-in-Of1978
returns-in-Of1978 c = rw c.in-Of1978.is refl

pub returns-in-Old : goal.returns-in-Old
returns-in-Old c = rw c.in-Old.is c.run_mode.ensures

-- `layout_modes::built_oscillator` meets its contract: one test over the 16 numbers.
-- Assumes nothing.
use mathlib.Core.Path.{◌∙◌}
use Rattle.base_lists.specs.Lists.{is_one_of}
use Rattle.base_lists.proofs.Masks.{tells, bit-tells}
use Rattle.layout_modes.specs.Modes.{built_oscillators, built_oscillator}
use Rattle.layout_modes.proofs.built_oscillator.Goals as goal

pub returns : goal.returns
unfolding built_oscillator tells is_one_of
returns c = c.bit.ensures ∙ bit-tells _ built_oscillators 16 tt _ c.requires

-- `machine_change::value_fits` meets its contract: each register has its width.
-- Assumes nothing.
use mathlib.Core.Path.{refl}
use Rattle.machine_change.specs.AsCoded.{value_fits}
use Rattle.machine_change.proofs.value_fits.Goals as goal

pub returns-in-Gmode : goal.returns-in-Gmode
unfolding value_fits
returns-in-Gmode c = rw c.in-Gmode.is c.built_gmode.ensures

pub returns-in-Gsum : goal.returns-in-Gsum
unfolding value_fits
returns-in-Gsum c = rw c.in-Gsum.is refl

pub returns-in-Gfm : goal.returns-in-Gfm
unfolding value_fits
returns-in-Gfm c = rw c.in-Gfm.is refl

pub returns-in-Dac : goal.returns-in-Dac
unfolding value_fits
returns-in-Dac c = rw c.in-Dac.is refl

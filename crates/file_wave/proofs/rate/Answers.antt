-- `file_wave::rate` meets its contract: the quotient as it is defined.
-- Assumes nothing.
use mathlib.Core.Path.{refl}
use Rattle.file_wave.specs.WaveFormat.{rate_of}
use Rattle.file_wave.proofs.rate.Goals as goal

pub returns : goal.returns
unfolding rate_of
returns c = refl

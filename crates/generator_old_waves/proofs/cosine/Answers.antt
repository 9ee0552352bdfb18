-- `generator_old_waves::cosine` meets its contract: the sine's promise at the cosine's index.
-- Assumes nothing.
use Rattle.generator_old_waves.specs.OldWaves.{cosine}
use Rattle.generator_old_waves.proofs.cosine.Goals as goal

pub returns : goal.returns
unfolding cosine
returns c = c.sine_wave.ensures

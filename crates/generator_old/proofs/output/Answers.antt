-- `generator_old::output` meets its contract: the wave's and the level's promises go into the envelope's.
-- Assumes nothing.
use Rattle.generator_old.specs.OldGenerator.{old_v}
use Rattle.generator_old.specs.AsCoded.{old_output_by}
use Rattle.generator_old.proofs.Levels.{old-level-low}
use Rattle.generator_old.proofs.output.Goals as goal

pub enveloped-requires : goal.enveloped-requires
enveloped-requires c = (c.wave-w.ensures.bit, c.wave-w.ensures.low, rw c.level-v.ensures (old-level-low _ _ _))

pub returns : goal.returns
unfolding old_output_by old_v
returns c = rw (← c.wave-w.ensures.is, ← c.level-v.ensures) c.enveloped.ensures

-- `generator_envelope::level` meets its contract: Q goes into the level by the bit of the mode.
-- Assumes nothing.
use Rattle.generator_envelope.specs.Envelope.{level}
use Rattle.generator_envelope.proofs.Levels.{q-low}
use Rattle.generator_envelope.proofs.level.Goals as goal

pub level_by-requires : goal.level_by-requires
level_by-requires c = (c.requires.0, rw c.q-q.ensures (q-low _ _ c.requires.1))

pub returns : goal.returns
unfolding level
returns c = rw (← c.q-q.ensures) c.level_by.ensures

-- `generator_old::level` meets its contract: Q is the 1978 text's of GQ without its low 12 bits.
-- Assumes nothing.
use mathlib.Core.Path.{◌∙◌}
use native.Mathlib.Omega.{arith}
use Rattle.generator_envelope.proofs.Levels.{q-low}
use Rattle.generator_old.specs.OldGenerator.{old_level}
use Rattle.generator_old.proofs.Levels.{q-is}
use Rattle.generator_old.proofs.level.Goals as goal

pub level_by-requires : goal.level_by-requires
level_by-requires c = (c.requires.0, rw c.q-q.ensures (q-low _ _ (omega (arith, c.requires.1))))

pub returns : goal.returns
unfolding old_level
returns c = rw (← (c.q-q.ensures ∙ q-is _ _)) c.level_by.ensures

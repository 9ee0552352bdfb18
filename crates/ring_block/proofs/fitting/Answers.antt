-- `ring_block::fitting` meets its contract: no room is asked for, there is room for all, or for so many.
-- Assumes nothing.
use Rattle.ring_block.proofs.Frames.{fit-without, fit_all, fit-some}
use Rattle.ring_block.proofs.fitting.Goals as goal

pub returns-then-width-eq0 : goal.returns-then-width-eq0
returns-then-width-eq0 c = fit-without _ _ _ c.if-width-eq0.true

pub returns-then-passes-frames : goal.returns-then-passes-frames
returns-then-passes-frames c = let a = c.args in fit_all a.width a.room a.passes c.if-width-eq0.false c.if-passes-frames.true

pub returns : goal.returns
returns c = let a = c.args in fit-some a.width a.room a.passes c.if-width-eq0.false c.if-passes-frames.false

-- `parts_contents::items` meets its contract: they count where no generator is to sound, and are 0 elsewhere.
-- Assumes nothing.
use mathlib.Core.Path.{◌∙◌}
use Rattle.parts_contents.proofs.Filling.{items-count, items-silent}
use Rattle.parts_contents.proofs.items.Goals as goal

pub returns-then-point-s : goal.returns-then-point-s
returns-then-point-s c =
    let a = c.args in
    c.count.ensures ∙ items-count a.point a.s a.n a.run.now c.if-point-s.true

pub returns : goal.returns
returns c =
    let a = c.args in
    c.fill.ensures ∙ items-silent a.point a.s a.n a.run.now c.if-point-s.false

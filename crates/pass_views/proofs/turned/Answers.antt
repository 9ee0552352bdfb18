-- `turned` meets its contract by whether the function reads A late.
-- Assumes nothing.
use Rattle.pass_views.specs.AsCoded.{turn_with_b}
use Rattle.pass_views.proofs.turned.Goals as goal

pub returns-then-reads_late : goal.returns-then-reads_late
unfolding turn_with_b
returns-then-reads_late c = rw (c.turn.ensures, c.look.ensures.is, c.look-b.ensures.is, ← c.function.ensures, ← c.reads_late.ensures, c.if-reads_late.true)

pub returns : goal.returns
unfolding turn_with_b
returns c = rw (c.turn-2.ensures, c.look-2.ensures.is, c.look-b.ensures.is, ← c.function.ensures, ← c.reads_late.ensures, c.if-reads_late.false)

-- `ring_order::fill_by_pitch` meets its contract: the first T entries are the order by pitch.
-- Assumes nothing.
use native.Mathlib.Omega.{arith}
use Rattle.ring_order.proofs.Filling.{pitch-part, pitch-within}
use Rattle.ring_order.proofs.fill_by_pitch.Goals as goal

pub returns-then-t-gt-GENERATORS : goal.returns-then-t-gt-GENERATORS
returns-then-t-gt-GENERATORS c = record { count_bound = omega arith; entries_value = λ few. absurd (omega (arith, c.if-t-gt-GENERATORS.true, c.ticks-t.ensures)) }

pub returns : goal.returns
returns c = let a = c.args in record { count_bound = pitch-within a.m.now c.by_pitch.ensures c.if-t-gt-GENERATORS.false; entries_value = λ few. pitch-part a.m.now few c.by_pitch.ensures c.ticks-t.ensures }

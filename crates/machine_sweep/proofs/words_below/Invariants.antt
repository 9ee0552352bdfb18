-- `machine_sweep::words_below` meets its contract: the units passed are below the limit.
-- Assumes nothing.
use mathlib.Core.Path.{◌≡◌}
use lib.Dec.{ltb}
use Rattle.machine_sweep.specs.AsCoded.{every_word}
use Rattle.machine_sweep.proofs.words_below.Given as goal

abbrev pub invariant-loop-k : goal.invariant-loop-k
invariant-loop-k l = l.ok ≡ every_word (λ x. ltb x l.limit) l.m l.at l.step 0 l.k

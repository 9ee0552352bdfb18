-- `chain::put` meets its contract: the numbers passed are put.
-- Assumes nothing.
use mathlib.Core.Path.{◌≡◌}
use lib.ListN.{get_or}
use Rattle.base_fills.specs.Fills.{filled}
use Rattle.chain.proofs.put.Given as goal

abbrev pub invariant-loop-k : goal.invariant-loop-k
invariant-loop-k l = l.numbers ≡ filled 0 1 l.k (λ j. get_or l.found j 0) l.initial.numbers

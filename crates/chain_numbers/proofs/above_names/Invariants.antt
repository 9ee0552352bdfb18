-- `chain_numbers::above_names` meets its contract: the names passed are above_names on.
-- Assumes nothing.
use mathlib.Core.Path.{◌≡◌}
use Prim.Native.Nat.{◌+◌}
use lib.ListN.{get_or}
use Rattle.chain_numbers.specs.Earliest.{highest}
use Rattle.chain_numbers.proofs.above_names.Given as goal

abbrev pub invariant-loop-k : goal.invariant-loop-k
invariant-loop-k l = l.number ≡ highest (λ j. get_or l.numbers j 0 + l.lag) l.names l.at l.k l.least

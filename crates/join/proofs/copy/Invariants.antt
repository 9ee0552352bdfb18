-- `join::copy` meets its contract: the words passed are copied.
-- Assumes nothing.
use mathlib.Core.Path.{◌≡◌}
use lib.ListN.{length, get_or}
use Rattle.base_fills.specs.Fills.{filled}
use Rattle.join.proofs.copy.Given as goal

abbrev pub invariant-loop-k : goal.invariant-loop-k
invariant-loop-k l = (l.m ≡ filled l.at 1 l.k (λ k. get_or l.words k 0) l.initial.m) × (length l.m ≡ length l.initial.m)

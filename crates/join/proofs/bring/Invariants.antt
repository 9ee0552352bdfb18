-- `join::bring` meets its contract: the words passed are chosen.
-- Assumes nothing.
use mathlib.Core.Path.{◌≡◌}
use lib.ListN.{length}
use Rattle.base_fills.specs.Fills.{filled}
use Rattle.join.proofs.Storing.{choice}
use Rattle.join.proofs.bring.Given as goal

abbrev pub invariant-loop-k : goal.invariant-loop-k
invariant-loop-k l = (l.m ≡ filled l.at 1 l.k (choice l.initial.m l.at l.words l.used l.first) l.initial.m) × (length l.m ≡ length l.initial.m)

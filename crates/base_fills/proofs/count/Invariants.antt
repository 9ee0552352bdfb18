-- `base_fills::count` meets its contract: the words passed are filled, and the next one is counted.
-- Assumes nothing.
use mathlib.Core.Path.{◌≡◌}
use Prim.Native.Nat.{◌+◌, ◌*◌}
use Rattle.base_fills.specs.Fills.{filled}
use Rattle.base_fills.proofs.count.Given as goal

abbrev pub invariant-loop-k : goal.invariant-loop-k
invariant-loop-k l = (l.run ≡ filled l.at l.step l.k (λ k. l.first + l.by * k) l.initial.run) × (l.word ≡ l.first + l.by * l.k)

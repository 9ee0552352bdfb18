-- `copy` meets its contract: the words passed are filled with those of the other run, in the end all.
-- Assumes nothing.
use mathlib.Core.Path.{◌≡◌}
use lib.ListN.{length, get_or}
use Rattle.base_fills.specs.Fills.{filled}
use Rattle.parts_contents.proofs.copy.Given as goal

abbrev pub invariant-loop-i : goal.invariant-loop-i
invariant-loop-i l = (l.run ≡ filled 0 1 l.i (λ k. get_or l.from k 0) l.initial.run) × (length l.run ≡ length l.initial.run)

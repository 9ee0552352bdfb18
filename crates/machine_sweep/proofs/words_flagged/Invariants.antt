-- `machine_sweep::words_flagged` meets its contract: the units passed have flagged words.
-- Assumes nothing.
use mathlib.Core.Path.{◌≡◌}
use mathlib.Core.Bool.{false}
use Prim.Native.Nat.{◌%◌}
use lib.ListN.{length, get_or}
use Rattle.machine_sweep.specs.AsCoded.{every_word}
use Rattle.machine_sweep.proofs.words_flagged.Given as goal

abbrev pub invariant-loop-k : goal.invariant-loop-k
invariant-loop-k l = l.ok ≡ every_word (λ x. get_or l.t (x % length l.t) false) l.m l.at l.step 0 l.k

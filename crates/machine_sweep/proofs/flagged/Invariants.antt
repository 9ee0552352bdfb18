-- `machine_sweep::flagged` meets its contract: the units passed have flagged fields.
-- Assumes nothing.
use mathlib.Core.Path.{◌≡◌}
use mathlib.Core.Bool.{false}
use Prim.Native.Nat.{◌/◌, ◌%◌, ◌^◌}
use lib.ListN.{get_or}
use Rattle.machine_sweep.specs.AsCoded.{every_word}
use Rattle.machine_sweep.proofs.flagged.Given as goal

abbrev pub invariant-loop-k : goal.invariant-loop-k
invariant-loop-k g l = l.ok ≡ every_word (λ x. get_or l.t (x / 2 ^ l.shift % g.row.N) false) l.m l.at l.step 0 l.k

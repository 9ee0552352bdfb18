-- `modifiers` meets its contract: after k modifiers the arrays hold the lagging stage, which is the definition's.
use mathlib.Core.Path.{◌≡◌}
use lib.ListN.{length}
use Rattle.pass_modifiers.specs.AsCoded.{lagged}
use Rattle.pass_modifiers.proofs.modifiers.Given as goal

abbrev pub invariant-loop-k : goal.invariant-loop-k
invariant-loop-k l =
    (length l.m ≡ length l.initial.m)
    × (record { held = record { words = l.m; memory = l.memory }; sums = l.s; lag = l.lag } ≡ lagged l.text l.t (record { words = l.initial.m; memory = l.initial.memory }) l.initial.s l.k)

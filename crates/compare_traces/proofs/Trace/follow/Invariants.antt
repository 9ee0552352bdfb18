-- `compare_traces::Trace::follow` meets its contract: the entries left, with the trace of those passed, make the whole trace.
-- Assumes nothing.
use mathlib.Core.Path.{◌≡◌}
use Prim.Native.Nat.{◌≤◌}
use lib.ListN.{drop}
use Rattle.compare_traces.specs.AsCoded.{trace_from, trace_of}
use Rattle.compare_traces.proofs.Trace.follow.Given as goal

abbrev pub invariant-loop-i : goal.invariant-loop-i
invariant-loop-i l =
    (trace_from l.text l.m l.i (drop l.i l.order) l.self ≡ trace_of l.text l.m l.order)
    × (l.self.counts.reads ≤ l.i)
    × (l.self.counts.writes ≤ l.i)

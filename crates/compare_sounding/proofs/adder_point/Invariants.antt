-- `compare_sounding::adder_point` meets its contract: the test passes at the generators passed.
-- Assumes nothing.
use mathlib.Core.Path.{◌≡◌}
use Rattle.base_sequences.specs.Sequences.{first_failing}
use Rattle.compare_points.specs.AsCoded.{sides}
use Rattle.compare_sounding.specs.AsCoded.{adder_on}
use Rattle.compare_sounding.proofs.adder_point.Given as goal

abbrev pub invariant-loop-g : goal.invariant-loop-g
invariant-loop-g l = first_failing (adder_on l.orders.text l.orders.m.now (sides l.orders.first_trace.now l.orders.second_trace.now) l.w l.l) l.g ≡ l.g

-- `pass_order::each_once` meets its contract: the entries left, with the marks of those passed, answer for the whole order.
-- Assumes nothing.
use mathlib.Core.Path.{◌≡◌}
use lib.ListN.{drop}
use Rattle.pass_order.specs.Order.{each_once}
use Rattle.pass_order.specs.AsCoded.{each_unmarked}
use Rattle.pass_order.proofs.each_once.Given as goal

abbrev pub invariant-loop-entry : goal.invariant-loop-entry
invariant-loop-entry l = each_unmarked l.t l.marks (drop l.entry-index l.order) ≡ each_once l.t l.order

-- `parts_contents::own_numbers` meets its contract: GK and GJ are counted, one after the other.
-- Assumes nothing.
use native.Mathlib.Omega.{arith}
use Prim.Native.Nat.{◌*◌}
use Rattle.layout.specs.Layout.{GJ, GK}
use Rattle.parts_contents.proofs.Filling.{counted}
use Rattle.parts_contents.proofs.own_numbers.Goals as goal

pub returns : goal.returns
returns c = counted GK GJ 11 256 0 1 0 256 (λ g. g) (λ g. 256 * g) (λ k. omega arith) (λ k. omega arith) c.level_last.ensures c.count.ensures c.count-2.ensures

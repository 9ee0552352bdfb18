-- `parts_contents::numbered_last` meets its contract: both last quadrants are numbered, one after the other.
-- Assumes nothing.
use native.Mathlib.Omega.{arith}
use Prim.Native.Nat.{◌+◌}
use Rattle.layout.specs.Layout.{quadrant_at}
use Rattle.pass_sums.specs.Sums.{generator_last, modifier_last}
use Rattle.parts_model.specs.Contents.{with_last}
use Rattle.parts_contents.proofs.Filling.{counted}
use Rattle.parts_contents.proofs.numbered_last.Goals as goal

pub returns : goal.returns
unfolding with_last
returns c = counted (quadrant_at generator_last) (quadrant_at modifier_last) 1 64 0 1 64 1 (λ w. w) (λ w. 64 + w) (λ k. omega arith) (λ k. omega arith) c.inactive.ensures c.count.ensures c.count-2.ensures

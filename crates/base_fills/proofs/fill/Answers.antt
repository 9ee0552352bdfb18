-- `base_fills::fill` meets its contract: a count that goes on by 0.
-- Assumes nothing.
use mathlib.Core.Path.{◌∙◌}
use Prim.Native.Nat.{◌+◌, ◌*◌}
use native.Mathlib.Omega.{arith}
use Rattle.base_fills.proofs.Filled.{filled-same}
use Rattle.base_fills.proofs.fill.Goals as goal

pub returns : goal.returns
returns c =
    let a = c.args in
    c.count.ensures ∙ filled-same a.at a.step a.n (λ k. a.word + 0 * k) (λ k. a.word) a.run.now (λ k h. omega arith)

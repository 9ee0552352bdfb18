-- `join::copy` meets its contract: the words passed are copied.
-- Assumes nothing.
use mathlib.Core.Path.{◌≡◌, refl, ◌∙◌}
use Prim.Native.Nat.{◌+◌}
use native.Mathlib.Omega.{arith}
use lib.ListN.{get_or, length-set}
use Rattle.base_fills.proofs.Filled.{filled_none}
use Rattle.join.proofs.Storing.{copy-next}
use Rattle.join.proofs.copy.Goals as goal

pub loop-k-init : goal.loop-k-init
loop-k-init c = let a = c.args in (filled_none a.at 1 (λ k. get_or a.words.now k 0) a.m.now, refl)

pub bounds-words-k : goal.bounds-words-k
bounds-words-k c = omega (arith, c.requires.1)

pub bounds-m-at : goal.bounds-m-at
bounds-m-at c = omega (arith, c.requires.0, c.loop-k.invariant.1)

pub loop-k-preserved : goal.loop-k-preserved
loop-k-preserved c =
    let a = c.args in (
      copy-next a.at c.loop-k.k (λ k. get_or a.words.now k 0) a.m.now c.loop-k.invariant.0,
      length-set c.loop-k.m (a.at + c.loop-k.k) _ ∙ c.loop-k.invariant.1,
    )

pub returns : goal.returns
returns c =
    let e : c.loop-k.k ≡ c.args.n = omega arith in
    rw (← e) c.loop-k.invariant.0

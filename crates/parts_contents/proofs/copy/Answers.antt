-- `copy` meets its contract: the words passed are filled with those of the other run, in the end all.
-- Assumes nothing.
use mathlib.Core.Path.{◌≡◌, refl, ◌∙◌}
use Prim.Native.Nat.{◌+◌, ◌*◌}
use native.Mathlib.Omega.{arith}
use lib.ListN.{length, get_or, length-set}
use Rattle.base_fills.proofs.Filled.{filled_none, filled_next}
use Rattle.parts_contents.proofs.Copied.{filled_copy}
use Rattle.parts_contents.proofs.copy.Goals as goal

pub loop-i-init : goal.loop-i-init
loop-i-init c =
    let a = c.args in
    (filled_none 0 1 (λ k. get_or a.from.now k 0) a.run.now, refl)

pub bounds-run-i : goal.bounds-run-i
bounds-run-i c = omega (arith, c.loop-i.invariant.1, c.requires)

pub loop-i-preserved : goal.loop-i-preserved
loop-i-preserved c =
    let a = c.args in
    let place : 0 + 1 * c.loop-i.i ≡ c.loop-i.i = omega arith in (
      rw place at (filled_next 0 1 c.loop-i.i (λ k. get_or a.from.now k 0) a.run.now c.loop-i.invariant.0),
      length-set c.loop-i.run c.loop-i.i _ ∙ c.loop-i.invariant.1,
    )

pub returns : goal.returns
returns c =
    let a = c.args in
    let e : c.loop-i.i ≡ length a.from.now = omega arith in
    c.loop-i.invariant.0 ∙ rw e (filled_copy a.from.now a.run.now c.requires)

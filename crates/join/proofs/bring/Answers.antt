-- `join::bring` meets its contract: the words passed are chosen.
-- Assumes nothing.
use mathlib.Core.Path.{refl, ◌∙◌}
use Prim.Native.Nat.{◌+◌}
use native.Mathlib.Omega.{arith}
use lib.ListN.{length-set}
use Rattle.base_fills.proofs.Filled.{filled_none}
use Rattle.join.proofs.Storing.{choice, choose-next, chosen-all}
use Rattle.join.proofs.bring.Goals as goal

pub loop-k-init : goal.loop-k-init
loop-k-init c =
    let a = c.args in
    (filled_none a.at 1 (choice a.m.now a.at a.words.now a.used.now a.first) a.m.now, refl)

pub overflow_add-first : goal.overflow_add-first
overflow_add-first c = omega (arith, c.requires.2)

pub bounds-used-first : goal.bounds-used-first
bounds-used-first c = omega (arith, c.requires.2)

pub offset_bounds-words-k : goal.offset_bounds-words-k
offset_bounds-words-k c = omega (arith, c.requires.1)

pub bounds-words-k : goal.bounds-words-k
bounds-words-k c = omega (arith, c.requires.1)

pub overflow_add-at : goal.overflow_add-at
overflow_add-at c = omega (arith, c.requires.0)

pub offset_bounds-m-at : goal.offset_bounds-m-at
offset_bounds-m-at c = omega (arith, c.requires.0, c.loop-k.invariant.1)

pub bounds-m-at : goal.bounds-m-at
bounds-m-at c = omega (arith, c.requires.0, c.loop-k.invariant.1)

pub overflow_add-m : goal.overflow_add-m
overflow_add-m c = omega (arith, c.requires.0)

pub offset_bounds-m-at-in-loop-k : goal.offset_bounds-m-at-in-loop-k
offset_bounds-m-at-in-loop-k c = omega (arith, c.requires.0, c.loop-k.invariant.1)

pub bounds-m-at-in-loop-k : goal.bounds-m-at-in-loop-k
bounds-m-at-in-loop-k c = omega (arith, c.requires.0, c.loop-k.invariant.1)

pub loop-k-preserved : goal.loop-k-preserved
loop-k-preserved c =
    let a = c.args in (
      choose-next a.m.now a.at a.words.now a.used.now a.first c.loop-k.k c.loop-k.invariant.0 c.choose-word.ensures,
      length-set c.loop-k.m (a.at + c.loop-k.k) _ ∙ c.loop-k.invariant.1,
    )

pub returns : goal.returns
returns c =
    let a = c.args in
    chosen-all a.m.now a.at a.words.now a.used.now a.first a.n c.loop-k.k (omega arith) c.loop-k.invariant.0

pub choose-word-requires : goal.choose-word-requires
choose-word-requires c = tt

pub shape_of-m : goal.shape_of-m
shape_of-m c = c.loop-k.invariant.1

-- `machine_sweep::flagged` meets its contract: the units passed have flagged fields.
-- Assumes nothing.
use mathlib.Core.Path.{refl}
use mathlib.Core.Bool.{false}
use Prim.Native.Nat.{◌/◌, ◌%◌, ◌^◌}
use native.Mathlib.Omega.{arith}
use native.Mathlib.Nat.{mod-lt}
use lib.ListN.{length, get_or}
use Rattle.machine_sweep.specs.AsCoded.{every_word}
use Rattle.machine_sweep.proofs.Words.{word-inside, word_next}
use Rattle.machine_sweep.proofs.flagged.Goals as goal

pub loop-k-init : goal.loop-k-init
unfolding every_word
loop-k-init g c = refl

pub overflow_mul-i : goal.overflow_mul-i
overflow_mul-i g c =
    let a = c.args in
    omega (arith, word-inside a.at a.step c.loop-k.k a.n (length a.m.now) (omega arith) c.requires.inside)

pub overflow_add-i : goal.overflow_add-i
overflow_add-i g c =
    let a = c.args in
    omega (arith, word-inside a.at a.step c.loop-k.k a.n (length a.m.now) (omega arith) c.requires.inside)

pub bounds-m-at : goal.bounds-m-at
bounds-m-at g c =
    let a = c.args in
    omega (arith, word-inside a.at a.step c.loop-k.k a.n (length a.m.now) (omega arith) c.requires.inside)

pub bounds-t-i : goal.bounds-t-i
bounds-t-i g c = mod-lt _ c.requires.some

pub loop-k-preserved : goal.loop-k-preserved
loop-k-preserved g c =
    let a = c.args in
    rw c.loop-k.invariant (word_next (λ x. get_or a.t.now (x / 2 ^ a.shift % g.row.N) false) a.m.now a.at a.step c.loop-k.k)

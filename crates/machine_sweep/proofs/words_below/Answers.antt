-- `machine_sweep::words_below` meets its contract: the units passed are below the limit.
-- Assumes nothing.
use mathlib.Core.Path.{refl}
use native.Mathlib.Omega.{arith}
use lib.Dec.{ltb}
use lib.ListN.{length}
use Rattle.machine_sweep.specs.AsCoded.{every_word}
use Rattle.machine_sweep.proofs.Words.{word-inside, word_next}
use Rattle.machine_sweep.proofs.words_below.Goals as goal

pub loop-k-init : goal.loop-k-init
unfolding every_word
loop-k-init c = refl

pub overflow_mul-ok : goal.overflow_mul-ok
overflow_mul-ok c =
    let a = c.args in
    omega (arith, word-inside a.at a.step c.loop-k.k a.n (length a.m.now) (omega arith) c.requires)

pub overflow_add-ok : goal.overflow_add-ok
overflow_add-ok c =
    let a = c.args in
    omega (arith, word-inside a.at a.step c.loop-k.k a.n (length a.m.now) (omega arith) c.requires)

pub bounds-m-at : goal.bounds-m-at
bounds-m-at c =
    let a = c.args in
    omega (arith, word-inside a.at a.step c.loop-k.k a.n (length a.m.now) (omega arith) c.requires)

pub loop-k-preserved : goal.loop-k-preserved
loop-k-preserved c =
    let a = c.args in
    rw c.loop-k.invariant (word_next (λ x. ltb x a.limit) a.m.now a.at a.step c.loop-k.k)

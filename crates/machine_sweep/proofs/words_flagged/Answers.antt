-- `machine_sweep::words_flagged` meets its contract: the units passed have flagged words.
-- Assumes nothing.
use mathlib.Core.Path.{refl}
use mathlib.Core.Bool.{false}
use Prim.Native.Nat.{◌+◌, ◌*◌, ◌%◌}
use native.Mathlib.Omega.{arith}
use native.Mathlib.Nat.{mod-lt}
use lib.ListN.{length, get_or}
use Rattle.machine_sweep.specs.AsCoded.{every_word}
use Rattle.machine_sweep.proofs.Words.{word-inside, word_next}
use Rattle.machine_sweep.proofs.words_flagged.Goals as goal

pub loop-k-init : goal.loop-k-init
unfolding every_word
loop-k-init c = refl

pub overflow_mul-i : goal.overflow_mul-i
overflow_mul-i c =
    let a = c.args in
    omega (arith, word-inside a.at a.step c.loop-k.k a.n (length a.m.now) (omega arith) c.requires.inside)

pub overflow_add-i : goal.overflow_add-i
overflow_add-i c =
    let a = c.args in
    omega (arith, word-inside a.at a.step c.loop-k.k a.n (length a.m.now) (omega arith) c.requires.inside)

pub bounds-m-at : goal.bounds-m-at
bounds-m-at c =
    let a = c.args in
    omega (arith, word-inside a.at a.step c.loop-k.k a.n (length a.m.now) (omega arith) c.requires.inside)

pub bounds-t-i : goal.bounds-t-i
bounds-t-i c =
    let a = c.args in
    mod-lt (get_or a.m.now (a.at + a.step * c.loop-k.k) 0) c.requires.some

pub loop-k-preserved : goal.loop-k-preserved
loop-k-preserved c =
    let a = c.args in
    rw c.loop-k.invariant (word_next (λ x. get_or a.t.now (x % length a.t.now) false) a.m.now a.at a.step c.loop-k.k)

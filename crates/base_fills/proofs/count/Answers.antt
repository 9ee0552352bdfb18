-- `base_fills::count` meets its contract: the words passed are filled, and the next one is counted.
-- Assumes nothing.
use mathlib.Core.Path.{◌≡◌}
use Prim.Native.Nat.{ℕ, ◌+◌, ◌*◌}
use native.Mathlib.Omega.{arith}
use native.Mathlib.Nat.{mul-zero, mul-suc}
use native.Mathlib.Numerals.{add-one}
use Rattle.base_fills.proofs.Filled.{steps_apart, filled_none, filled_next}
use Rattle.base_fills.proofs.count.Goals as goal

next : (by k : ℕ) → by * (k + 1) ≡ by * k + by
next by k = rw (add-one k) (mul-suc by k)

pub loop-k-init : goal.loop-k-init
loop-k-init c =
    let a = c.args in
    (filled_none a.at a.step (λ k. a.first + a.by * k) a.run.now, omega (arith, mul-zero a.by))

pub overflow_mul-run : goal.overflow_mul-run
overflow_mul-run c =
    let a = c.args in
    omega (arith, c.requires.0, steps_apart a.step c.loop-k.k a.n (omega arith))

pub overflow_add-run : goal.overflow_add-run
overflow_add-run c =
    let a = c.args in
    omega (arith, c.requires.0, steps_apart a.step c.loop-k.k a.n (omega arith))

pub bounds-run-at : goal.bounds-run-at
bounds-run-at c =
    let a = c.args in
    omega (arith, c.requires.0, steps_apart a.step c.loop-k.k a.n (omega arith))

pub overflow_add-word : goal.overflow_add-word
overflow_add-word c =
    let a = c.args in
    omega (arith, c.requires.1, c.loop-k.invariant.1, steps_apart a.by c.loop-k.k a.n (omega arith))

pub loop-k-preserved : goal.loop-k-preserved
loop-k-preserved c =
    let a = c.args in (
      rw c.loop-k.invariant.1 (filled_next a.at a.step c.loop-k.k (λ k. a.first + a.by * k) a.run.now c.loop-k.invariant.0),
      omega (arith, c.loop-k.invariant.1, next a.by c.loop-k.k),
    )

-- `chain_numbers::above_names` meets its contract: the names passed are above_names on.
-- Assumes nothing.
use mathlib.Core.Path.{◌≡◌, ap}
use Prim.Native.Nat.{ℕ, ◌+◌, ◌≤◌}
use lib.ListN.{get_or}
use Rattle.chain_numbers.proofs.Loops.{highest-none, highest-next}
use native.Mathlib.Omega.{arith}
use Rattle.chain_numbers.proofs.above_names.Goals as goal

pub loop-k-init : goal.loop-k-init
loop-k-init c =
    let a = c.args in
    highest-none (λ j. get_or a.numbers.now j 0 + a.lag) a.names.now a.at a.least

pub overflow_add-at : goal.overflow_add-at
overflow_add-at c = omega (arith, c.requires.waiting.within)

pub offset_bounds-names-at : goal.offset_bounds-names-at
offset_bounds-names-at c = omega (arith, c.requires.waiting.within)

pub bounds-names-at : goal.bounds-names-at
bounds-names-at c = omega (arith, c.requires.waiting.within)

pub offset_bounds-numbers-j : goal.offset_bounds-numbers-j
offset_bounds-numbers-j c = omega (arith, c.wide-j.ensures, c.requires.waiting.below c.loop-k.k (omega arith))

pub bounds-numbers-j : goal.bounds-numbers-j
bounds-numbers-j c = omega (arith, c.wide-j.ensures, c.requires.waiting.below c.loop-k.k (omega arith))

pub overflow_add-numbers : goal.overflow_add-numbers
overflow_add-numbers c =
    let s : get_or c.args.numbers.now c.wide-j.result 0 ≤ 512 = rw c.wide-j.ensures (c.requires.waiting.small c.loop-k.k (omega arith)) in
    omega (arith, s, c.requires.lag_bound)

pub loop-k-preserved : goal.loop-k-preserved
loop-k-preserved c =
    let a = c.args in
    highest-next (λ j. get_or a.numbers.now j 0 + a.lag) a.names.now a.at c.loop-k.k a.least c.loop-k.invariant
    (ap (λ (j : ℕ). get_or a.numbers.now j 0 + a.lag) c.wide-j.ensures) c.max-number.ensures

pub returns : goal.returns
returns c =
    let a = c.args in
    let e : c.loop-k.k ≡ a.n = omega arith in
    rw (← e) c.loop-k.invariant

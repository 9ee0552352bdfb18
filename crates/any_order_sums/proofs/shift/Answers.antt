-- `any_order_sums::shift` meets its contract: a wrapping add is the sum as a word.
-- Assumes nothing.
use Rattle.std.proofs.Common.{ℕ, ◌+◌, ◌%◌, ◌^◌, get_or, set, ap}
use Rattle.any_order_sums.specs.AsCoded.{stepped, moved}
use Rattle.any_order_sums.proofs.shift.Goals as goal

pub returns : goal.returns
unfolding stepped moved
returns c =
    let a = c.args in
    let e = ap (λ (x : ℕ). (get_or a.kept.now a.i 0 + x) % 2 ^ 32) c.step.ensures in record { kept_after = ap (set a.kept.now a.i) e; value = e }

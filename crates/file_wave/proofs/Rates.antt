-- The rate is the nearest whole number: a quotient by d is at most what it is of, by d, and one more is past it.
-- Assumes nothing.
use mathlib.Core.Path.{◌≡◌}
use Prim.Native.Nat.{ℕ, ◌+◌, ◌*◌, ◌/◌, ◌<◌, ◌≤◌}
use native.Mathlib.Omega.{arith}
use native.Mathlib.Nat.{mul-add, mul-one, div-add-mod, mod-lt}
use Rattle.file_wave.specs.WaveFormat.{tick, second, rate_of}

quotient-within : (x d : ℕ) → 0 < d → (d * (x / d) ≤ x) × (x < d * (x / d + 1))
quotient-within x d h =
    let whole = div-add-mod x d in
    let rest = mod-lt x h in
    let next : d * (x / d + 1) ≡ d * (x / d) + d * 1 = mul-add d (x / d) 1 in
    (omega (arith, whole), omega (arith, whole, rest, next, mul-one d))

-- Twice the rate's ticks are no more than half a pass past two seconds, and those of the next rate are more.
pub rate-nearest : (n : ℕ) → 0 < n → (2 * tick * n * rate_of n ≤ 2 * second + tick * n) × (2 * second + tick * n < 2 * tick * n * (rate_of n + 1))
unfolding rate_of
rate-nearest n h = quotient-within (2 * second + tick * n) (2 * tick * n) (omega arith)

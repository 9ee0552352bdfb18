-- Two to a width below 32, as the code has it: 1 shifted left at 32 bits.
-- Assumes nothing.
use Rattle.std.proofs.Common.{◌≡◌, ℕ, zero, suc, ◌+◌, ◌-◌, ◌*◌, ◌%◌, ◌^◌, ◌<◌, ◌≤◌, ◌∙◌, mod-eq_of_lt, arith}
use Rattle.std.proofs.lemmas.Nat.{pow_below}
use Rattle.std.proofs.Math.Nat.{two-pow-succ}

pub shifted : (w : ℕ) → w < 32 → 1 * 2 ^ w % 4294967296 ≡ 2 ^ w
shifted w h = mod-eq_of_lt (omega (arith, pow_below w 32 h)) ∙ omega arith

pub halved : (w : ℕ) → 0 < w → 2 ^ w ≡ 2 ^ (w - 1) + 2 ^ (w - 1)
halved zero h = absurd (omega arith)
halved (suc w) h = rw (add-sub w) (two-pow-succ w)
  where
    add-sub : (w : ℕ) → suc w - 1 ≡ w
    add-sub w = omega arith

-- A difference at 32 bits is what the taken number was taken from.
pub taken : (n k : ℕ) → n < 2 ^ 32 → k ≤ 2 ^ 32 → ((n + (4294967296 - k)) % 4294967296 + k) % 2 ^ 32 ≡ n
taken n k h l = omega arith

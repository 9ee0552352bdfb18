-- A shift within 32 bits is a multiplication or a division by a power of two.
-- Assumes nothing.
use mathlib.Core.Path.{◌≡◌, refl, ◌∙◌}
use Prim.Native.Nat.{ℕ, ◌+◌, ◌-◌, ◌*◌, ◌/◌, ◌%◌, ◌^◌, ◌<◌}
use native.Mathlib.Nat.{mod-eq_of_lt}
use native.Mathlib.Omega.{arith}
use lib.Pow.{pow_pos, pow-lt}
use Rattle.command_fields.specs.Fields.{field}

-- The power that the code makes of a 1.
pub one_shifted : (n : ℕ) → n < 32 → 1 * 2 ^ n % 2 ^ 32 ≡ 2 ^ n
one_shifted n h = mod-eq_of_lt (omega (arith, pow-lt h)) ∙ omega arith

pub one-shifted-positive : (n : ℕ) → n < 32 → 0 < 1 * 2 ^ n % 2 ^ 32
one-shifted-positive n h = rw (one_shifted n h) (pow_pos n)

-- A field of n bits, right of which k bits stand.
pub field-code : (first last c k n : ℕ) → k ≡ 35 - last → n ≡ last + 1 - first → n < 32 → c / 2 ^ k % (1 * 2 ^ n % 2 ^ 32) ≡ field first last c
field-code first last c k n p q h = rw (one_shifted n h, p, q) refl

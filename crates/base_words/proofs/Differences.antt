-- An integer as a difference of two numbers, one of which is 0: what a sum makes of the two, and that they tell the integer.
-- Assumes nothing.
use Rattle.std.proofs.Common.{◌≡◌, ℕ, zero, suc, ◌+◌, ◌-◌, ◌<◌, ◌≤◌, Bool, true, false, cond, not, T, ltb, ℤ, pos, negsuc, ◌+ℤ◌, ◌-ℤ◌, neg_ℤ, refl, ap, arith, ltb→lt, nltb→le}
use lib.IntN.{sub_ℕ}

abbrev pub up : ℤ → ℕ
up (pos n) = n
up (negsuc n) = 0

abbrev pub down : ℤ → ℕ
down (pos n) = 0
down (negsuc n) = suc n

sub_by : (c : Bool) (a b : ℕ) → (T c → a < b) → (T (not c) → b ≤ a)
    → up (cond c (negsuc (b - suc a)) (pos (a - b))) + b ≡ down (cond c (negsuc (b - suc a)) (pos (a - b))) + a
sub_by true a b f g = omega (arith, f tt)
sub_by false a b f g = omega (arith, g tt)

sub-law : (a b : ℕ) → up (sub_ℕ a b) + b ≡ down (sub_ℕ a b) + a
sub-law a b = sub_by (ltb a b) a b (ltb→lt a b) (nltb→le a b)

pub add-law : (x y : ℤ) → up (x +ℤ y) + (down x + down y) ≡ down (x +ℤ y) + (up x + up y)
add-law (pos a) (pos b) = omega arith
add-law (pos a) (negsuc b) = omega (arith, sub-law a (suc b))
add-law (negsuc a) (pos b) = omega (arith, sub-law b (suc a))
add-law (negsuc a) (negsuc b) = omega arith

pub neg-up : (n : ℕ) → up (neg_ℤ (pos n)) ≡ 0
neg-up zero = refl
neg-up (suc n) = refl

pub neg-down : (n : ℕ) → down (neg_ℤ (pos n)) ≡ n
neg-down zero = refl
neg-down (suc n) = refl

minus-law : (n k : ℕ) → up (pos n -ℤ pos k) + k ≡ down (pos n -ℤ pos k) + n
minus-law n k = omega (arith, add-law (pos n) (neg_ℤ (pos k)), neg-up k, neg-down k)

-- An integer is n - k, said by its two numbers.
pub record Difference (z : ℤ) (n k : ℕ) : Type 0 where
  pub said : up z + k ≡ down z + n

pub is-difference : {z : ℤ} (n k : ℕ) → z ≡ pos n -ℤ pos k → Difference z n k
is-difference n k e = rw e (record { said = minus-law n k })

pub sum-difference : {x y : ℤ} {m k n l : ℕ} → Difference x m k → Difference y n l → Difference (x +ℤ y) (m + n) (k + l)
sum-difference {x} {y} p q = record { said = omega (arith, add-law x y) }

-- Two integers with one difference are one.
one-difference : (x y : ℤ) → up x + down y ≡ down x + up y → x ≡ y
one-difference (pos a) (pos b) h = ap pos (omega arith)
one-difference (pos a) (negsuc b) h = absurd (omega arith)
one-difference (negsuc a) (pos b) h = absurd (omega arith)
one-difference (negsuc a) (negsuc b) h = ap negsuc (omega arith)

pub is-minus : {z : ℤ} {n k : ℕ} → Difference z n k → z ≡ pos n -ℤ pos k
is-minus {z} {n} {k} d = one-difference z (pos n -ℤ pos k) (omega (arith, minus-law n k))

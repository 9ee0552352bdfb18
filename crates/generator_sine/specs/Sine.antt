-- The sine of K, as document 01 has it ("House tables"), in whole numbers and fractions of them.
-- Assumes nothing.
use Rattle.std.specs.Prelude.{ℕ, ◌+◌, ◌-◌, ◌*◌, ◌/◌, ◌%◌, ◌^◌, min, Bool, cond, ◌&&◌, List, eqb, leb}
use Rattle.base_lists.specs.Lists.{tabulate}

-- A fraction: a numerator and a denominator.
pub record Fraction : Type 0 where
  pub num : ℕ
  pub den : ℕ

-- The power a^k.
abbrev pub power : Fraction → ℕ → Fraction
power a k = record { num = a.num ^ k; den = a.den ^ k }

-- The quotient a/m.
abbrev pub over : Fraction → ℕ → Fraction
over a m = record { num = a.num; den = a.den * m }

-- The sum a + b.
abbrev pub plus : Fraction → Fraction → Fraction
plus a b = record { num = a.num * b.den + b.num * a.den; den = a.den * b.den }

-- Whether a is at least b.
abbrev pub at_least : Fraction → Fraction → Bool
at_least a b = leb (b.num * a.den) (a.num * b.den)

-- The difference a - b, where a is at least b.
abbrev pub minus : Fraction → Fraction → Fraction
minus a b = record { num = a.num * b.den - b.num * a.den; den = a.den * b.den }

-- The product of m and a.
abbrev pub times : ℕ → Fraction → Fraction
times m a = record { num = m * a.num; den = a.den }

-- The whole part of a.
abbrev pub whole : Fraction → ℕ
whole a = a.num / a.den

-- The first three terms, a - a^3/6 + a^5/120.
unfoldable pub first_three : Fraction → Fraction
first_three a = plus (minus a (over (power a 3) 6)) (over (power a 5) 120)

-- a - a^3/6 + a^5/120 - a^7/5,040 + a^9/362,880.
unfoldable pub polynomial : Fraction → Fraction
polynomial a = plus (minus (first_three a) (over (power a 7) 5040)) (over (power a 9) 362880)

-- The angle of entry j: 355(2j+1)/925,696.
unfoldable pub angle : ℕ → Fraction
angle j = record { num = 355 * (2 * j + 1); den = 925696 }

-- Entry j of the quarter sine: the whole part, at most 4,095, of 4,096 times the polynomial at its angle.
unfoldable pub entry : ℕ → ℕ
entry j = min 4095 (whole (times 4096 (polynomial (angle j))))

-- Whether neither difference in the polynomial at entry j is cut off at 0: a is at least a^3/6, and the first three terms at least a^7/5,040.
unfoldable pub exact : ℕ → Bool
exact j = at_least (angle j) (over (power (angle j) 3) 6) && at_least (first_three (angle j)) (over (power (angle j) 7) 5040)

-- The quarter sine: 2,048 entries.
unfoldable pub quarter : List ℕ
quarter = tabulate entry 0 2048

-- The place in the quarter sine for k, which is K read unsigned: j = k mod 2,048, the quarter k div 2,048. Quarters 1 and 3 use 2,047 - j.
unfoldable pub index_of : ℕ → ℕ
index_of k = cond (eqb (k / 2048 % 2) 1) (2047 - k % 2048) (k % 2048)

-- Whether the sine of K is negative: quarters 2 and 3 are.
unfoldable pub negative : ℕ → Bool
negative k = leb 2 (k / 2048)

-- The sign of the sine of K as a number: 0, or 1 where it is negative.
unfoldable pub sign_of : ℕ → ℕ
sign_of k = cond (negative k) 1 0

-- The magnitude of the sine of K.
unfoldable pub magnitude : ℕ → ℕ
magnitude k = entry (index_of k)

-- One modifier: its registers, its products, and what a turn gives (document 01, "The machine" and "A modifier").
-- Assumes nothing.
use Rattle.std.specs.Prelude.{List, ℕ, ◌+◌, ◌/◌, ◌%◌, ◌^◌, ◌<◌, get_or, set}
use Rattle.layout.specs.Layout.{M0, M1, L0, L1, MIN, MRM, MSUM, MMODE}
use Rattle.layout.specs.Widths.{coefficient_bits, latch_bits, address_bits, msum_bits, mmode_bits}
use Rattle.base_words.specs.Words.{sum_into}
use Rattle.modifier_product.specs.Product.{product, integer_product, whole_product}
use Rattle.modifier.specs.declared.Modifier.{Modifier}
use Rattle.modifier.specs.declared.Turned.{Turned}

-- The modifier whose eight words a part of the machine starts with, each register at its width.
unfoldable pub loaded : List ℕ → Modifier
loaded m =
    record {
      m0 = get_or m M0 0 % 2 ^ coefficient_bits;
      m1 = get_or m M1 0 % 2 ^ coefficient_bits;
      l0 = get_or m L0 0 % 2 ^ latch_bits;
      l1 = get_or m L1 0 % 2 ^ latch_bits;
      min = get_or m MIN 0 % 2 ^ address_bits;
      mrm = get_or m MRM 0 % 2 ^ address_bits;
      msum = get_or m MSUM 0 % 2 ^ msum_bits;
      mmode = get_or m MMODE 0 % 2 ^ mmode_bits;
    }

-- A machine, or a part of it, with the registers that a turn can change written back at a place: M0, its first word, M1, L0 and L1.
unfoldable pub stored : List ℕ → ℕ → Modifier → List ℕ
stored m at u = set (set (set (set m at u.m0) (at + M1) u.m1) (at + L0) u.l0) (at + L1) u.l1

-- A modifier with other M0, M1, L0 and L1.
abbrev pub updated : Modifier → ℕ → ℕ → ℕ → ℕ → Modifier
updated u m0 m1 l0 l1 =
    record {
      m0 = m0;
      m1 = m1;
      l0 = l0;
      l1 = l1;
      min = u.min;
      mrm = u.mrm;
      msum = u.msum;
      mmode = u.mmode;
    }

-- Every register is within its width.
pub record Ranged (u : Modifier) : Type 0 where
  pub m0-low : u.m0 < 2 ^ coefficient_bits
  pub m1-low : u.m1 < 2 ^ coefficient_bits
  pub l0-low : u.l0 < 2 ^ latch_bits
  pub l1-low : u.l1 < 2 ^ latch_bits
  pub min-low : u.min < 2 ^ address_bits
  pub mrm-low : u.mrm < 2 ^ address_bits
  pub msum-low : u.msum < 2 ^ msum_bits
  pub mmode-low : u.mmode < 2 ^ mmode_bits

-- MMODE is function (5 bits), scale AA (2), scale BB (2). The function's code.
abbrev pub function_of : Modifier → ℕ
function_of u = u.mmode / 2 ^ 4 % 2 ^ 5

-- The scale AA of the second multiplication.
abbrev pub scale_aa : Modifier → ℕ
scale_aa u = u.mmode / 2 ^ 2 % 2 ^ 2

-- The scale BB of the first multiplication.
abbrev pub scale_bb : Modifier → ℕ
scale_bb u = u.mmode % 2 ^ 2

-- The high 20 bits of a coefficient.
abbrev pub coefficient : ℕ → ℕ
coefficient m = m / 2 ^ 10

-- x*M1, a first multiplication.
unfoldable pub times_m1 : Modifier → ℕ → ℕ
times_m1 u x = product (scale_bb u) x (coefficient u.m1)

-- x*M0, a second multiplication.
unfoldable pub times_m0 : Modifier → ℕ → ℕ
times_m0 u x = product (scale_aa u) x (coefficient u.m0)

-- x*y of two signals, a second multiplication.
unfoldable pub times_signal : Modifier → ℕ → ℕ → ℕ
times_signal u x y = product (scale_aa u) x y

-- x*M1 as an integer product, first.
unfoldable pub integer_m1 : Modifier → ℕ → ℕ
integer_m1 u x = integer_product (scale_bb u) x (coefficient u.m1)

-- x*M0 as an integer product, second.
unfoldable pub integer_m0 : Modifier → ℕ → ℕ
integer_m0 u x = integer_product (scale_aa u) x (coefficient u.m0)

-- x*M0 as an integer product of the older text, second.
unfoldable pub whole_m0 : Modifier → ℕ → ℕ
whole_m0 u x = whole_product (scale_aa u) x (coefficient u.m0)

-- x*M1 as an integer product of the older text, first: no function of that text has it.
unfoldable pub whole_m1 : Modifier → ℕ → ℕ
whole_m1 u x = whole_product (scale_bb u) x (coefficient u.m1)

-- What a turn gives: the registers afterwards, and S.
abbrev pub gives : Modifier → ℕ → Turned
gives u s = record { unit = u; s = s }

-- L1 := x.
abbrev pub with_l1 : Modifier → ℕ → Modifier
with_l1 u x = updated u u.m0 u.m1 u.l0 x

-- L0 := L1; L1 := x.
abbrev pub shifted : Modifier → ℕ → Modifier
shifted u x = updated u u.m0 u.m1 u.l1 x

-- M0 := M0 + b: b is added right-justified, with its sign extended.
abbrev pub plus_m0 : Modifier → ℕ → Modifier
plus_m0 u b = updated u (sum_into 30 20 u.m0 b) u.m1 u.l0 u.l1

-- M1 := M1 + b, in the same way.
abbrev pub plus_m1 : Modifier → ℕ → Modifier
plus_m1 u b = updated u u.m0 (sum_into 30 20 u.m1 b) u.l0 u.l1

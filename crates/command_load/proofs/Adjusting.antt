-- A register loaded right-adjusted or left-adjusted, at any width from 20 to 30 bits.
-- Assumes nothing.
use mathlib.Core.Path.{◌≡◌, refl, sym, ◌∙◌}
use mathlib.Core.Bool.{Bool, true, false}
use mathlib.Core.List.{List}
use Prim.Native.Nat.{ℕ, ◌+◌, ◌-◌, ◌*◌, ◌/◌, ◌%◌, ◌^◌, ◌≤◌, ◌<◌}
use native.Mathlib.Nat.{mod-eq_of_lt, mul-le-mul_left, div-lt_iff_lt-mul}
use native.Mathlib.Omega.{arith}
use lib.Pow.{pow_pos, pow_mono}
use lib.ListN.{get_or, set}
use Rattle.layout.specs.Layout.{dx_at}
use Rattle.base_words.specs.Words.{signed, extended}
use Rattle.base_words.proofs.Residues.{low-low}
use Rattle.command_fields.specs.Fields.{flag, data_of}
use Rattle.command_fields.proofs.Shifts.{one_shifted}
use Rattle.command_load.specs.Loads.{loaded_right, loaded_left, loaded_adjusted}

-- A word of 20 bits extended to 32 bits and cut to w is that word extended to w.
extended-low : (w a : ℕ) → w ≤ 32 → extended 20 32 a % 2 ^ w ≡ extended 20 w a
unfolding extended
extended-low w a h = low-low w 32 (signed 20 a) h

module _ (w : ℕ) (h : 20 ≤ w) (l : w ≤ 30) where
  -- The data at the left of 30 bits, and what the left of DX adds.
  data-below : (a : ℕ) → a < 2 ^ 20 → a * 2 ^ (w - 20) < 2 ^ 30
  data-below a b = let p : a * 2 ^ (w - 20) ≤ a * 2 ^ 10 = mul-le-mul_left a (pow_mono {i = w - 20} {j = 10} (omega arith)) in omega arith

  low_below : (d : ℕ) → d < 2 ^ 32 → d / 2 ^ (40 - w) < 2 ^ 22
  low_below d b = (div-lt_iff_lt-mul (pow_pos (40 - w))).1 (omega (arith, pow_mono {i = 10} {j = 40 - w} (omega arith)))

  module _ (c : ℕ) {a : ℕ} (e : a ≡ data_of c) where
    pub left-fits : (d : ℕ) → d < 2 ^ 32 → a * 2 ^ (w - 20) % 2 ^ 32 + d / 2 ^ (40 - w) < 2 ^ 32
    left-fits d b = omega (arith, data-below a (omega (arith, e)), low_below d b)

    pub adjusted-left : (m : List ℕ) (at : ℕ) {f : Bool} → f ≡ flag 27 c → f ≡ true
        → set (set m at (a * 2 ^ (w - 20) % 2 ^ 32 + get_or m dx_at 0 / 2 ^ (40 - w))) dx_at 0 ≡ loaded_adjusted m c at w
    unfolding loaded_adjusted loaded_left
    adjusted-left m at p q =
        let t : flag 27 c ≡ true = sym p ∙ q in
        let z : a * 2 ^ (w - 20) % 2 ^ 32 ≡ a * 2 ^ (w - 20) = mod-eq_of_lt (omega (arith, data-below a (omega (arith, e)))) in
        rw (t, z, e) refl

    pub adjusted-right : (m : List ℕ) (at : ℕ) {f : Bool} {x : ℕ} → f ≡ flag 27 c → f ≡ false → x ≡ extended 20 32 a
        → set m at (x % (1 * 2 ^ w % 2 ^ 32)) ≡ loaded_adjusted m c at w
    unfolding loaded_adjusted loaded_right
    adjusted-right m at p q r =
        let t : flag 27 c ≡ false = sym p ∙ q in
        rw (t, one_shifted w (omega arith), r, extended-low w a (omega arith), e) refl

-- What a turn computes is within its width, and so is a loaded modifier.
-- Assumes nothing.
use mathlib.Core.Path.{◌≡◌}
use mathlib.Core.List.{List}
use Prim.Native.Nat.{ℕ, ◌^◌, ◌<◌}
use native.Mathlib.Nat.{mod-lt}
use lib.Dec.{lit≤}
use lib.Pow.{pow_pos}
use Rattle.base_words.specs.Words.{Word}
use Rattle.base_words.proofs.Residues.{either-low, low-lt, sum_low, sum_into-low}
use Rattle.modifier_product.specs.Product.{product_by}
use Rattle.modifier_product.proofs.Widths.{product-low, integer-low, whole-low}
use Rattle.modifier_product.specs.declared.Product.{Product}
use Rattle.modifier_product.specs.declared.Product.TheVariants.{Rounded, Integer, Whole}
use Rattle.modifier.specs.declared.Coefficient.{Coefficient}
use Rattle.modifier.specs.declared.Coefficient.TheVariants.{M0, M1}
use Rattle.modifier.specs.declared.Modifier.{Modifier}
use Rattle.modifier.specs.Coefficients.{held, times}
use Rattle.modifier.specs.Modifier.{loaded, Ranged, scale_aa, scale_bb, coefficient, times_m1, times_m0, times_signal, integer_m0, integer_m1, whole_m0, whole_m1}

pub word_of : {r v : ℕ} → r ≡ v → v < 2 ^ 20 → Word v r
word_of e h = record { is = e; low = rw e h }

module _ (u : Modifier) (x : ℕ) where
  pub times-m1-low : times_m1 u x < 2 ^ 20
  unfolding times_m1
  times-m1-low = product-low _ _ _

  pub times-m0-low : times_m0 u x < 2 ^ 20
  unfolding times_m0
  times-m0-low = product-low _ _ _

  pub times-signal-low : (y : ℕ) → times_signal u x y < 2 ^ 20
  unfolding times_signal
  times-signal-low y = product-low _ _ _

-- What shows that a word that a turn gives is within its width.
-- Any kind of product of a word and a coefficient.
module _ (u : Modifier) (x : ℕ) where
  pub by-m0 : (k : Product) {r : ℕ} → r ≡ product_by k (scale_aa u) x (coefficient u.m0) → Word (times k M0 u x) r
  unfolding times_m0 integer_m0 whole_m0
  by-m0 Rounded e = word_of e (product-low _ _ _)
  by-m0 Integer e = word_of e (integer-low _ _ _)
  by-m0 Whole e = word_of e (whole-low _ _ _)

  pub by-m1 : (k : Product) {r : ℕ} → r ≡ product_by k (scale_bb u) x (coefficient u.m1) → Word (times k M1 u x) r
  unfolding times_m1 integer_m1 whole_m1
  by-m1 Rounded e = word_of e (product-low _ _ _)
  by-m1 Integer e = word_of e (integer-low _ _ _)
  by-m1 Whole e = word_of e (whole-low _ _ _)

-- A coefficient within its width.
pub coefficient-low : (by : Coefficient) (u : Modifier) → u.m0 < 2 ^ 30 → u.m1 < 2 ^ 30 → held by u < 2 ^ 30
coefficient-low M0 u h k = h
coefficient-low M1 u h k = k

pub ruleset lows = (sum_low, sum_into-low, times-m1-low, times-m0-low, times-signal-low, either-low, low-lt, lit≤)

-- A modifier that was loaded is within its widths.
pub loaded-ranged : (m : List ℕ) → Ranged (loaded m)
unfolding loaded
loaded-ranged m =
    record {
      m0-low = mod-lt _ (pow_pos 30);
      m1-low = mod-lt _ (pow_pos 30);
      l0-low = mod-lt _ (pow_pos 20);
      l1-low = mod-lt _ (pow_pos 20);
      min-low = mod-lt _ (pow_pos 8);
      mrm-low = mod-lt _ (pow_pos 8);
      msum-low = mod-lt _ (pow_pos 7);
      mmode-low = mod-lt _ (pow_pos 9);
    }

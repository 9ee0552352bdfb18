-- A test at every number below a bound, as a loop asks it: one number more, and a number that stops it.
-- Assumes nothing.
use mathlib.Core.Path.{◌≡◌, refl, sym, ◌∙◌}
use mathlib.Core.Bool.{Bool, true, false}
use Prim.Native.Nat.{ℕ, ◌+◌, ◌<◌}
use native.Mathlib.Numerals.{add-one}
use Rattle.base_lists.specs.Lists.{all_below}
use Rattle.base_lists.proofs.Below.{and_both, below_at}

module _ (p : ℕ → Bool) (k : ℕ) where
  pub below_next : p k ≡ true → all_below p k ≡ true → all_below p (k + 1) ≡ true
  below_next e f = rw (add-one k) (and_both (p k) (all_below p k) e f)

  pub below-stops : (n : ℕ) → k < n → p k ≡ false → all_below p n ≡ false
  below-stops n h e = go (all_below p n) refl
    where
      go : (b : Bool) → all_below p n ≡ b → b ≡ false
      go true f = sym (below_at p n f k h) ∙ e
      go false f = refl

-- One generator more is counted, as the code counts it.
-- Assumes nothing.
use mathlib.Core.Path.{◌≡◌, refl, ◌∙◌}
use mathlib.Core.Bool.{Bool, true, false}
use Prim.Native.Nat.{ℕ, suc, ◌+◌, ◌-◌, ◌<◌, ◌≤◌}
use native.Mathlib.Omega.{arith}
use borrow.Author.Tests.{lt-ltb, le-ltb}
use Rattle.base_lists.specs.Lists.{zeros}
use Rattle.layout.specs.Machine.{Machine, ticks_of}
use Rattle.layout_texts.specs.declared.Text.TheVariants.{Of1978}
use Rattle.compare_agreement.specs.Agreement.{settings_of, awaits}
use Rattle.any_order_sums.specs.Places.{Kept, awaiting_at, kept_length}
use Rattle.any_order_sums.specs.AsCoded.{moved_if}
use Rattle.any_order_counts.specs.AsCoded.{awaited, role_moved, generator_moved, counted_moved, roles_moved, counted_to}

-- Whether the upper neighbour waits.
module _ (m : Machine) (t g : ℕ) where
  pub none_above : t ≤ g + 1 → false ≡ awaited m t g
  none_above h = rw (le-ltb (g + 1) t h)

  pub some-above : g + 1 < t → {b : Bool} → b ≡ awaits (settings_of Of1978 m) (g + 1) → b ≡ awaited m t g
  some-above h e = e ∙ rw (lt-ltb (g + 1) t h)

-- One after the other.
module _ (up : Bool) (m : Machine) (k : Kept) (from : ℕ) where
  pub roles-none : k ≡ roles_moved up m k from (from - from)
  unfolding roles_moved
  roles-none = let none : from - from ≡ 0 = omega arith in rw none

  pub roles-next : (g : ℕ) → from ≤ g → {kept left : Kept} → kept ≡ roles_moved up m k from (g - from) → left ≡ role_moved up m kept g → left ≡ roles_moved up m k from (g + 1 - from)
  unfolding roles_moved
  roles-next g l e n =
      let next : g + 1 - from ≡ suc (g - from) = omega arith in
      let at : from + (g - from) ≡ g = omega arith in
      rw (next, at, ← e) n

  pub roles-one : roles_moved up m k from (from + 1 - from) ≡ role_moved up m k from
  unfolding roles_moved
  roles-one = let one : from + 1 - from ≡ 1 = omega arith in let at : from + 0 ≡ from = omega arith in rw (one, at)

-- A generator below T moves, another doesn't.
module _ (up : Bool) (m : Machine) (k : Kept) (g : ℕ) {t : ℕ} (is : t ≡ ticks_of m) where
  pub below-moved : g < t → {above : Bool} → above ≡ awaited m t g → {role left : Kept} → role ≡ roles_moved up m k g (g + 1 - g) → left ≡ moved_if above up role awaiting_at → left ≡ counted_moved up m k g
  unfolding counted_moved generator_moved
  below-moved h above-is role-is e = e ∙ rw (above-is, role-is, roles-one up m k g, ← is, lt-ltb g t h)

  pub above-stays : t ≤ g → k ≡ counted_moved up m k g
  unfolding counted_moved
  above-stays h = rw (← is, le-ltb g t h)

-- None is counted, and one more, which has no neighbour above it yet.
pub counted_none : (m : Machine) → counted_to m 0 ≡ zeros kept_length
unfolding roles_moved
counted_none m = refl

pub counted_next : (m : Machine) (g : ℕ) → counted_to m (suc g) ≡ generator_moved true m (suc g) (counted_to m g) g
unfolding roles_moved generator_moved moved_if
counted_next m g = let at : 0 + g ≡ g = omega arith in rw (at, le-ltb (g + 1) (suc g) (omega arith))

pub counted-by : (m : Machine) {k : Kept} → k ≡ zeros kept_length → {t : ℕ} → t ≡ ticks_of m → {left : Kept} → left ≡ roles_moved true m k 0 (t - 0) → left ≡ counted_to m (ticks_of m)
counted-by m k-is {t} is e = let all : t - 0 ≡ ticks_of m = omega (arith, is) in e ∙ rw (k-is, all)

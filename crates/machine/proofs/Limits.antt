-- The sweep of a region by its registers' limits is the test of each register's width: both go over the same words.
-- Assumes nothing.
use mathlib.Core.Path.{◌≡◌, refl, sym, ap, ◌∙◌}
use mathlib.Core.Bool.{Bool, false}
use mathlib.Core.List.{List, [], ◌∷◌}
use Prim.Native.Nat.{ℕ, zero, suc, ◌+◌, ◌*◌, ◌%◌, ◌^◌, ◌<◌}
use native.Mathlib.Nat.{not-suc-le-zero, le_of_suc-le-suc, mod-lt}
use lib.Dec.{ltb}
use lib.ListN.{length, get_or}
use Rattle.base_lists.specs.Lists.{all_below}
use Rattle.base_lists.proofs.Below.{below-same}
use Rattle.base_lists.proofs.Tables.{tabulate-at, tabulate-length}
use Rattle.machine_sweep.specs.AsCoded.{swept}
use Rattle.machine_sweep.proofs.EveryColumn.{every_column, limit_tests, tests-length, tests-at}
use Rattle.machine_sweep.proofs.Rows.{swept-columns}
use Rattle.machine.specs.Questions.{Register, width}
use Rattle.machine.specs.AsCoded.{limits_of, repeated}
use Rattle.machine.proofs.Regions.{region-words}

-- n words from a place are below the limits, which repeat.
unfoldable limited : List ℕ → List ℕ → ℕ → ℕ → Bool
limited ls m at n = all_below (λ i. ltb (get_or m (at + i) 0) (get_or ls (i % length ls) 0)) n

limited-columns : (ls m : List ℕ) (at n : ℕ) → 0 < length ls → every_column (limit_tests ls) m at (length ls) 0 n ≡ limited ls m at (n * length ls)
unfolding limited
limited-columns ls m at n p =
    rw (tests-length ls) at (region-words (record { units = n; tests = limit_tests ls }) m at)
    ∙ below-same (λ i. get_or (limit_tests ls) (i % length ls) (λ y. false) (get_or m (at + i) 0)) (λ i. ltb (get_or m (at + i) 0) (get_or ls (i % length ls) 0)) (n * length ls)
    (λ i h. tests-at ls (i % length ls) (get_or m (at + i) 0) (mod-lt i p))

-- Limits repeated: how many they are, and each of them.
repeated-length : (ls : List ℕ) (w : ℕ) → length (repeated ls w) ≡ w
unfolding repeated
repeated-length ls w = tabulate-length (λ i. get_or ls (i % length ls) 0) 0 w

repeated-at : (ls : List ℕ) (w i : ℕ) → i < w → get_or (repeated ls w) i 0 ≡ get_or ls (i % length ls) 0
unfolding repeated
repeated-at ls w i h = tabulate-at (λ i. get_or ls (i % length ls) 0) w i 0 h

-- The limits are powers of two.
widths : List Register → ℕ → ℕ
widths [] i = 0
widths (r ∷ rs) zero = width r
widths (r ∷ rs) (suc i) = widths rs i

power_at : (rs : List Register) (i : ℕ) → i < length (limits_of rs) → get_or (limits_of rs) i 0 ≡ 2 ^ widths rs i
unfolding widths
power_at [] i h = absurd (not-suc-le-zero h)
power_at (r ∷ rs) zero h = refl
power_at (r ∷ rs) (suc i) h = power_at rs i (le_of_suc-le-suc h)

-- A row of w limits, a whole number of units, swept over n units.
module _ (rs : List Register) (m : List ℕ) (at w times n : ℕ) (some : 0 < length (limits_of rs)) (row : 0 < w)
    (whole : (i : ℕ) → i % w % length (limits_of rs) ≡ i % length (limits_of rs)) (all : 8 * times * w ≡ n * length (limits_of rs)) where
  row-power : (i : ℕ) → i < length (repeated (limits_of rs) w) → get_or (repeated (limits_of rs) w) i 0 ≡ 2 ^ widths rs (i % length (limits_of rs))
  row-power i h =
      repeated-at (limits_of rs) w i (rw (repeated-length (limits_of rs) w) at h)
      ∙ power_at rs (i % length (limits_of rs)) (mod-lt i some)

  by_row : limited (repeated (limits_of rs) w) m at (8 * times * w) ≡ limited (limits_of rs) m at (8 * times * w)
  unfolding limited
  by_row =
      below-same (λ i. ltb (get_or m (at + i) 0) (get_or (repeated (limits_of rs) w) (i % length (repeated (limits_of rs) w)) 0)) (λ i. ltb (get_or m (at + i) 0) (get_or (limits_of rs) (i % length (limits_of rs)) 0)) (8 * times * w)
      (λ i h. rw (repeated-length (limits_of rs) w, repeated-at (limits_of rs) w (i % w) (mod-lt i row), whole i))

  pub region-swept : swept (repeated (limits_of rs) w) m at times ≡ every_column (limit_tests (limits_of rs)) m at (length (limits_of rs)) 0 n
  region-swept =
      swept-columns (repeated (limits_of rs) w) m at times (λ i. widths rs (i % length (limits_of rs))) row-power
      ∙ limited-columns (repeated (limits_of rs) w) m at (8 * times) (rw (repeated-length (limits_of rs) w) row)
      ∙ ap (λ k. limited (repeated (limits_of rs) w) m at (8 * times * k)) (repeated-length (limits_of rs) w)
      ∙ by_row
      ∙ ap (limited (limits_of rs) m at) all
      ∙ sym (limited-columns (limits_of rs) m at n some)

-- The sweep's answer by the code's table.
pub limits-swept : (t ls m : List ℕ) (at times : ℕ) (r : Bool) → t ≡ ls → r ≡ swept t m at times → r ≡ swept ls m at times
limits-swept t ls m at times r e f = f ∙ ap (λ (l : List ℕ). swept l m at times) e

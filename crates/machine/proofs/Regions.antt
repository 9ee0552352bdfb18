-- The regions of the machine: the test of each unit's word, and the tests of all words gathered column by column.
-- Assumes nothing.
use mathlib.Core.Path.{◌≡◌, refl, sym, ap, ◌∙◌}
use mathlib.Core.Bool.{Bool, true, false, cond, ◌&&◌}
use mathlib.Core.List.{List, [], ◌∷◌}
use Prim.Native.Nat.{ℕ, zero, suc, ◌+◌, ◌-◌, ◌*◌, ◌/◌, ◌%◌, ◌≤◌, ◌<◌}
use native.Mathlib.Omega.{arith}
use native.Mathlib.Nat.{not-suc-le-zero, lt_of_lt_of_le, mul-zero, mul_comm, mul-suc, zero-add, add_assoc, add-sub_cancel_left, add-sub_of_le, mul-le-mul_left, mul-add-mod_self_left, mod-eq_of_lt, mod-lt, div-add-mod, div-lt_iff_lt-mul}
use borrow.Author.Tests.{ltb-true, ltb-false, lt-ltb, le-ltb}
use lib.Dec.{ltb}
use lib.ListN.{length, get_or}
use Rattle.base_lists.specs.Lists.{all_below}
use Rattle.base_lists.proofs.Below.{both_ways, and_first, and_second, and_both, below_at, below-from}
use Rattle.machine.specs.Questions.{Region, test_at}
use Rattle.machine_sweep.proofs.EveryColumn.{every_column, column-at, column-from}

-- The words of a region, and of regions together.
abbrev pub size : Region → ℕ
size r = r.units * length r.tests

unfoldable pub words_of : List Region → ℕ
words_of [] = 0
words_of (r ∷ rs) = size r + words_of rs

-- Region k, and the place at which it starts.
abbrev pub region : List Region → ℕ → Region
region [] k = record { units = 0; tests = [] }
region (r ∷ rs) zero = r
region (r ∷ rs) (suc k) = region rs k

abbrev pub start : List Region → ℕ → ℕ
start [] k = 0
start (r ∷ rs) zero = 0
start (r ∷ rs) (suc k) = size r + start rs k

test_in : (r : Region) (rs : List Region) (i x : ℕ) → i < size r → test_at (r ∷ rs) i x ≡ get_or r.tests (i % length r.tests) (λ y. false) x
unfolding test_at
test_in r rs i x h = rw (lt-ltb i (size r) h)

test-past : (r : Region) (rs : List Region) (i x : ℕ) → test_at (r ∷ rs) (size r + i) x ≡ test_at rs i x
unfolding test_at
test-past r rs i x = rw (le-ltb (size r + i) (size r) (omega arith), add-sub_cancel_left (size r) i)

-- Word j of unit u is in the region.
in-unit : (n u j k : ℕ) → u < n → j < k → k * u + j < n * k
in-unit n u j k h l = rw (mul_comm n k) (lt_of_lt_of_le (next (k * u)) (rw (mul-suc k u) at (mul-le-mul_left k h))) where
  next : (a : ℕ) → a + j < a + k
  next a = omega arith

pub unit-test : (rs : List Region) (k u j x : ℕ) → u < (region rs k).units → j < length (region rs k).tests
    → test_at rs (start rs k + (length (region rs k).tests * u + j)) x ≡ get_or (region rs k).tests j (λ y. false) x
unit-test [] k u j x h l = absurd (not-suc-le-zero h)
unit-test (r ∷ rs) zero u j x h l =
    rw (zero-add (length r.tests * u + j), test_in r rs (length r.tests * u + j) x (in-unit r.units u j (length r.tests) h l))
    (ap (λ (i : ℕ). get_or r.tests i (λ y. false) x) (mul-add-mod_self_left (length r.tests) u j ∙ mod-eq_of_lt l))
unit-test (r ∷ rs) (suc k) u j x h l =
    rw (add_assoc (size r) (start rs k) (length (region rs k).tests * u + j), test-past r rs (start rs k + (length (region rs k).tests * u + j)) x)
    (unit-test rs k u j x h l)

-- The tests of all words of regions that stand one after the other from a place on, column by column.
abbrev pub every_region : List Region → List ℕ → ℕ → Bool
every_region [] m at = true
every_region (r ∷ rs) m at = every_column r.tests m at (length r.tests) 0 r.units && every_region rs m (at + size r)

has_words : (i n k : ℕ) → i < n * k → 0 < k
has_words i n zero h = absurd (not-suc-le-zero (rw (mul-zero n) at h))
has_words i n (suc k) h = omega arith

-- Where every column passes, each word does.
region-at : (r : Region) (m : List ℕ) (at : ℕ) → every_column r.tests m at (length r.tests) 0 r.units ≡ true
    → (i : ℕ) → i < size r → get_or r.tests (i % length r.tests) (λ y. false) (get_or m (at + i) 0) ≡ true
region-at r m at e i h =
    let k = length r.tests in
    let p : 0 < k = has_words i r.units k h in
    rw place at (column-at r.tests m at k 0 r.units e (i % k) (i / k) (mod-lt i p) ((div-lt_iff_lt-mul p).1 h)) where
      place : at + length r.tests * (i / length r.tests) + (0 + i % length r.tests) ≡ at + i
      place = rw (zero-add (i % length r.tests), add_assoc at (length r.tests * (i / length r.tests)) (i % length r.tests), div-add-mod i (length r.tests))

either-place : (r : Region) (rs : List Region) (i x : ℕ) → (i < size r → get_or r.tests (i % length r.tests) (λ y. false) x ≡ true)
    → (size r ≤ i → test_at rs (i - size r) x ≡ true) → test_at (r ∷ rs) i x ≡ true
unfolding test_at
either-place r rs i x f g = by-test (ltb i (size r)) refl where
  by-test : (b : Bool) → ltb i (size r) ≡ b → cond b (get_or r.tests (i % length r.tests) (λ y. false) x) (test_at rs (i - size r) x) ≡ true
  by-test true q = f (ltb-true i (size r) q)
  by-test false q = g (ltb-false i (size r) q)

regions-at : (rs : List Region) (m : List ℕ) (at : ℕ) → every_region rs m at ≡ true → (i : ℕ) → i < words_of rs → test_at rs i (get_or m (at + i) 0) ≡ true
unfolding words_of test_at
regions-at [] m at e i h = absurd (not-suc-le-zero h)
regions-at (r ∷ rs) m at e i h =
    let first = every_column r.tests m at (length r.tests) 0 r.units in
    let rest = every_region rs m (at + size r) in
    either-place r rs i (get_or m (at + i) 0)
    (λ l. region-at r m at (and_first first rest e) i l)
    (λ l. rw (add_assoc at (size r) (i - size r), add-sub_of_le l) at (regions-at rs m (at + size r) (and_second first rest e) (i - size r) (omega arith)))

-- Where each word passes, every column does.
region-from : (r : Region) (rs : List Region) (m : List ℕ) (at : ℕ) → ((i : ℕ) → i < size r → test_at (r ∷ rs) i (get_or m (at + i) 0) ≡ true)
    → every_column r.tests m at (length r.tests) 0 r.units ≡ true
region-from r rs m at f =
    column-from r.tests m at (length r.tests) 0 r.units
    (λ j u h l. rw (zero-add j, add_assoc at (length r.tests * u) j)
    (sym (unit-test (r ∷ rs) 0 u j (get_or m (at + (length r.tests * u + j)) 0) l h)
    ∙ rw (zero-add (length r.tests * u + j)) (f (length r.tests * u + j) (in-unit r.units u j (length r.tests) l h))))

regions-from : (rs : List Region) (m : List ℕ) (at : ℕ) → ((i : ℕ) → i < words_of rs → test_at rs i (get_or m (at + i) 0) ≡ true) → every_region rs m at ≡ true
unfolding words_of
regions-from [] m at f = refl
regions-from (r ∷ rs) m at f =
    and_both (every_column r.tests m at (length r.tests) 0 r.units) (every_region rs m (at + size r))
    (region-from r rs m at (λ i l. f i (omega arith)))
    (regions-from rs m (at + size r)
    (λ i l. rw (test-past r rs i, ← (add_assoc at (size r) i)) at (f (size r + i) (omega arith))))

-- The columns of one region, word by word.
pub region-words : (r : Region) (m : List ℕ) (at : ℕ)
    → every_column r.tests m at (length r.tests) 0 r.units ≡ all_below (λ i. get_or r.tests (i % length r.tests) (λ y. false) (get_or m (at + i) 0)) (size r)
region-words r m at =
    both_ways (every_column r.tests m at (length r.tests) 0 r.units) (all_below (λ i. get_or r.tests (i % length r.tests) (λ y. false) (get_or m (at + i) 0)) (size r))
    (λ e. below-from (λ i. get_or r.tests (i % length r.tests) (λ y. false) (get_or m (at + i) 0)) (size r) (λ i h. region-at r m at e i h))
    (λ e. region-from r [] m at (λ i h. test_in r [] i (get_or m (at + i) 0) h ∙ below_at (λ i. get_or r.tests (i % length r.tests) (λ y. false) (get_or m (at + i) 0)) (size r) e i h))

-- The tests of all words are those of all columns.
pub regions-columns : (rs : List Region) (m : List ℕ) → all_below (λ i. test_at rs i (get_or m i 0)) (words_of rs) ≡ every_region rs m 0
regions-columns rs m =
    both_ways (all_below (λ i. test_at rs i (get_or m i 0)) (words_of rs)) (every_region rs m 0)
    (λ e. regions-from rs m 0 (λ i l. rw (zero-add i) (below_at (λ i. test_at rs i (get_or m i 0)) (words_of rs) e i l)))
    (λ e. below-from (λ i. test_at rs i (get_or m i 0)) (words_of rs) (λ i l. rw (zero-add i) at (regions-at rs m 0 e i l)))

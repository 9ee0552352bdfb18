-- The sweep: where the limits are powers of two it passes just where each word of each column is below its limit.
-- Assumes nothing.
use mathlib.Core.Path.{◌≡◌, sym, ◌∙◌}
use mathlib.Core.Bool.{Bool, true, ◌&&◌}
use mathlib.Core.List.{List}
use Prim.Native.Nat.{ℕ, zero, suc, ◌+◌, ◌*◌, ◌/◌, ◌%◌, ◌^◌, ◌<◌, ◌≤◌}
use native.Mathlib.Nat.{add-zero, lt_of_le_of_lt, mul-le-mul_left, mul_comm, zero-mul, one-mul}
use native.Mathlib.Numerals.{add-one}
use native.Mathlib.Omega.{arith}
use borrow.Author.Tests.{ltb-true, lt-ltb}
use lib.Dec.{ltb}
use lib.Bits.{bit_or, or_lt, or_add_and, and_le_l, and_le_r}
use lib.Pow.{pow_pos}
use lib.ListN.{length, get_or}
use Rattle.base_lists.proofs.Below.{both_ways, and_first, and_second, and_both, below_at, below-from}
use Rattle.machine_sweep.specs.AsCoded.{column, every_word, rows_below, swept}
use Rattle.machine_sweep.proofs.EveryColumn.{every_column, column-at, column-from, limit_tests, tests-length, tests-at}

-- Eight words or-ed, one of each row.
abbrev pub eight : List ℕ → ℕ → ℕ → ℕ → ℕ
eight m at w i =
    bit_or (bit_or (bit_or (bit_or (bit_or (bit_or (bit_or
    (get_or m (at + i) 0)
    (get_or m (at + w + i) 0))
    (get_or m (at + 2 * w + i) 0))
    (get_or m (at + 3 * w + i) 0))
    (get_or m (at + 4 * w + i) 0))
    (get_or m (at + 5 * w + i) 0))
    (get_or m (at + 6 * w + i) 0))
    (get_or m (at + 7 * w + i) 0)

-- An or is within a width just where both words are.
or-below : (k a b : ℕ) → bit_or a b < 2 ^ k → (a < 2 ^ k) × (b < 2 ^ k)
or-below k a b h = (
  lt_of_le_of_lt (omega (arith, or_add_and a b, and_le_r a b)) h,
  lt_of_le_of_lt (omega (arith, or_add_and a b, and_le_l a b)) h,
)

pub or-bits : (w a b : ℕ) → ltb (bit_or a b) (2 ^ w) ≡ (ltb b (2 ^ w) && ltb a (2 ^ w))
or-bits w a b =
    both_ways (ltb (bit_or a b) (2 ^ w)) (ltb b (2 ^ w) && ltb a (2 ^ w))
    (λ e. and_both (ltb b (2 ^ w)) (ltb a (2 ^ w)) (lt-ltb b (2 ^ w) (both e).1) (lt-ltb a (2 ^ w) (both e).0))
    (λ e. lt-ltb (bit_or a b) (2 ^ w)
    (or_lt w a b (ltb-true a (2 ^ w) (and_second (ltb b (2 ^ w)) (ltb a (2 ^ w)) e)) (ltb-true b (2 ^ w) (and_first (ltb b (2 ^ w)) (ltb a (2 ^ w)) e))))
  where
    both : ltb (bit_or a b) (2 ^ w) ≡ true → (a < 2 ^ w) × (b < 2 ^ w)
    both e = or-below w a b (ltb-true (bit_or a b) (2 ^ w) e)

-- A column is within a width just where each of its words is.
column-bits : (w : ℕ) (m : List ℕ) (at step j n : ℕ) → ltb (column m at step j n) (2 ^ w) ≡ every_word (λ x. ltb x (2 ^ w)) m at step j n
unfolding column every_word
column-bits w m at step j zero = lt-ltb 0 (2 ^ w) (pow_pos w)
column-bits w m at step j (suc n) =
    or-bits w (column m at step j n) (get_or m (at + step * n + j) 0)
    ∙ rw (column-bits w m at step j n)

-- The code's or, and one place more.
column-eight : (m : List ℕ) (at w i : ℕ) → eight m at w i ≡ column m at w i 8
unfolding column
column-eight m at w i = simp (mul_comm w, zero-mul, one-mul, add-zero)

pub rows_next : (limits m : List ℕ) (at i : ℕ) (ok : Bool) → ok ≡ rows_below limits m at i
    → (ltb (eight m at (length limits) i) (get_or limits i 0) && ok) ≡ rows_below limits m at (i + 1)
unfolding rows_below
rows_next limits m at i ok e = rw (e, column-eight m at (length limits) i, add-one i)

pub rows_inside : (at rows k times size : ℕ) → k < times → at + rows * times ≤ size → at + rows * k + rows ≤ size
rows_inside at rows k times size h l = omega (arith, mul-le-mul_left rows h)

pub swept-next : (limits m : List ℕ) (at k : ℕ) → (rows_below limits m (at + 8 * length limits * k) (length limits) && swept limits m at k) ≡ swept limits m at (k + 1)
unfolding swept
swept-next limits m at k = rw (add-one k)

-- The sweep is the test of each word, where limit i is 2 to the power of width i.
module _ (limits m : List ℕ) (at times : ℕ) (widths : ℕ → ℕ) (powers : (i : ℕ) → i < length limits → get_or limits i 0 ≡ 2 ^ widths i) where
  -- Word i of row u.
  word : ℕ → ℕ → ℕ
  word u i = get_or m (at + length limits * u + (0 + i)) 0

  -- Row q of the k-th eight.
  place : (k q i : ℕ) → get_or m (at + 8 * length limits * k + length limits * q + i) 0 ≡ word (8 * k + q) i
  unfolding word
  place k q i =
      let e : at + 8 * length limits * k + length limits * q + i ≡ at + length limits * (8 * k + q) + (0 + i) = omega arith in
      rw e

  from-rows : swept limits m at times ≡ true → (k q i : ℕ) → k < times → q < 8 → i < length limits → ltb (word (8 * k + q) i) (get_or limits i 0) ≡ true
  unfolding swept rows_below every_word
  from-rows e k q i kt q8 iw =
      let w = widths i in
      let start = at + 8 * length limits * k in
      let row : rows_below limits m start (length limits) ≡ true = below_at (λ k. rows_below limits m (at + 8 * length limits * k) (length limits)) times e k kt in
      let ored : ltb (column m start (length limits) i 8) (2 ^ w) ≡ true = rw (powers i iw) at (below_at (λ i. ltb (column m start (length limits) i 8) (get_or limits i 0)) (length limits) row i iw) in
      let one : ltb (get_or m (start + length limits * q + i) 0) (2 ^ w) ≡ true = below_at (λ q. ltb (get_or m (start + length limits * q + i) 0) (2 ^ w)) 8 (sym (column-bits w m start (length limits) i 8) ∙ ored) q q8 in
      rw (powers i iw, ← (place k q i)) one

  to-rows : ((u i : ℕ) → u < 8 * times → i < length limits → ltb (word u i) (get_or limits i 0) ≡ true) → swept limits m at times ≡ true
  unfolding swept rows_below every_word
  to-rows f =
      below-from (λ k. rows_below limits m (at + 8 * length limits * k) (length limits)) times
      (λ k kt. below-from (λ i. ltb (column m (at + 8 * length limits * k) (length limits) i 8) (get_or limits i 0)) (length limits) (λ i iw. ored k i kt iw))
    where
      ored : (k i : ℕ) → k < times → i < length limits → ltb (column m (at + 8 * length limits * k) (length limits) i 8) (get_or limits i 0) ≡ true
      ored k i kt iw =
          rw (powers i iw)
          (column-bits (widths i) m (at + 8 * length limits * k) (length limits) i 8
          ∙ below-from (λ q. ltb (get_or m (at + 8 * length limits * k + length limits * q + i) 0) (2 ^ widths i)) 8
          (λ q q8. rw (place k q i, ← (powers i iw)) (f (8 * k + q) i (omega arith) iw)))

  pub swept-columns : swept limits m at times ≡ every_column (limit_tests limits) m at (length limits) 0 (8 * times)
  unfolding word
  swept-columns =
      both_ways (swept limits m at times) (every_column (limit_tests limits) m at (length limits) 0 (8 * times))
      (λ e. column-from (limit_tests limits) m at (length limits) 0 (8 * times)
      (λ i u h l.
      let iw : i < length limits = rw (tests-length limits) at h in
      let parts : 8 * (u / 8) + u % 8 ≡ u = omega arith in
      tests-at limits i (word u i) iw ∙ rw parts at (from-rows e (u / 8) (u % 8) i (omega arith) (omega arith) iw)))
      (λ e. to-rows (λ u i l iw.
      sym (tests-at limits i (word u i) iw)
      ∙ column-at (limit_tests limits) m at (length limits) 0 (8 * times) e i u (rw (tests-length limits) iw) l))

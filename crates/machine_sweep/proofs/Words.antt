-- Columns word by word: one word more, a column from another place, and fields that a table of flags tells.
-- Assumes nothing.
use mathlib.Core.Path.{◌≡◌, sym, ap, ◌∙◌}
use mathlib.Core.Bool.{Bool, false, ◌&&◌, beq}
use mathlib.Core.List.{List}
use Prim.Native.Nat.{ℕ, ◌+◌, ◌*◌, ◌/◌, ◌%◌, ◌^◌, ◌<◌}
use native.Mathlib.Nat.{add-zero, mul-le-mul_left, mod-lt}
use native.Mathlib.Numerals.{add-one}
use native.Mathlib.Omega.{arith}
use lib.Dec.{T, eqb}
use lib.ListN.{length, get_or}
use lib.Seq.{ext_get_or}
use Rattle.base_lists.specs.Lists.{all_below, tabulate}
use Rattle.base_lists.proofs.Below.{below-same}
use Rattle.base_lists.proofs.Tables.{tabulate-at, tabulate-length}
use Rattle.base_lists.proofs.Masks.{bit-tests}
use Rattle.machine_sweep.specs.AsCoded.{every_word, flag_of, flags_of}

-- The word of unit k is inside the run where that of the last unit is.
pub word-inside : (at step k n size : ℕ) → k < n → at + step * n < size + step → at + step * k < size
word-inside at step k n size h l = omega (arith, mul-le-mul_left step h)

-- One unit more that passes a test.
pub word_next : (p : ℕ → Bool) (m : List ℕ) (at step k : ℕ) → (p (get_or m (at + step * k) 0) && every_word p m at step 0 k) ≡ every_word p m at step 0 (k + 1)
unfolding every_word
word_next p m at step k = rw (add-one k, add-zero (at + step * k))

-- Word j of the units is word 0 of units that begin j words later.
pub word-from : (p : ℕ → Bool) (m : List ℕ) (at step j n : ℕ) → every_word p m (at + j) step 0 n ≡ every_word p m at step j n
unfolding every_word
word-from p m at step j n =
    below-same (λ k. p (get_or m (at + j + step * k + 0) 0)) (λ k. p (get_or m (at + step * k + j) 0)) n
    (λ k l. let e : at + j + step * k + 0 ≡ at + step * k + j = omega arith in rw e)

-- A list with each flag at its place is the list of flags.
pub flags-are : (mask n : ℕ) (t : List Bool) → length t ≡ n → ((k : ℕ) → k < n → get_or t k false ≡ flag_of mask k) → t ≡ flags_of mask n
unfolding flags_of
flags-are mask n t e each =
    ext_get_or false t (tabulate (flag_of mask) 0 n) (e ∙ sym (tabulate-length (flag_of mask) 0 n))
    (λ k h. let l : k < n = rw e at h in each k l ∙ sym (tabulate-at (flag_of mask) n k false l))

-- What the flags of a mask tell, where its bits tell of a test, and what a test's table tells.
pub flags-tell : (mask n : ℕ) (t : List Bool) → t ≡ flags_of mask n → (p : ℕ → Bool) → T (all_below (λ k. beq (eqb (mask / 2 ^ k % 2) 1) (p k)) n)
    → (i : ℕ) → i < n → get_or t i false ≡ p i
unfolding flags_of flag_of
flags-tell mask n t e p passes i h = rw e (tabulate-at (flag_of mask) n i false h ∙ bit-tests mask p n passes i h)

pub table-tells : (p : ℕ → Bool) (n : ℕ) (t : List Bool) → t ≡ tabulate p 0 n → (i : ℕ) → i < n → get_or t i false ≡ p i
table-tells p n t e i h = rw e (tabulate-at p n i false h)

-- Fields that have flags are fields that pass the test that the flags tell.
pub fields-tested : (t : List Bool) (p : ℕ → Bool) (w : ℕ) → 0 < w → ((i : ℕ) → i < w → get_or t i false ≡ p i) → (shift : ℕ) (m : List ℕ) (at step n : ℕ) (r : Bool)
    → r ≡ every_word (λ x. get_or t (x / 2 ^ shift % w) false) m at step 0 n → r ≡ every_word (λ x. p (x / 2 ^ shift % w)) m at step 0 n
unfolding every_word
fields-tested t p w some tells shift m at step n r flagged =
    flagged
    ∙ below-same (λ k. get_or t (get_or m (at + step * k + 0) 0 / 2 ^ shift % w) false) (λ k. p (get_or m (at + step * k + 0) 0 / 2 ^ shift % w)) n
    (λ k l. tells (get_or m (at + step * k + 0) 0 / 2 ^ shift % w) (mod-lt (get_or m (at + step * k + 0) 0 / 2 ^ shift) some))

-- The same of words' right bits.
pub words-tested : (t : List Bool) (p : ℕ → Bool) (w : ℕ) → 0 < w → ((i : ℕ) → i < w → get_or t i false ≡ p i) → (m : List ℕ) (at step n : ℕ) (r : Bool)
    → r ≡ every_word (λ x. get_or t (x / 2 ^ 0 % w) false) m at step 0 n → r ≡ every_word (λ x. p (x % w)) m at step 0 n
unfolding every_word
words-tested t p w some tells m at step n r flagged =
    fields-tested t p w some tells 0 m at step n r flagged
    ∙ below-same (λ k. p (get_or m (at + step * k + 0) 0 / 2 ^ 0 % w)) (λ k. p (get_or m (at + step * k + 0) 0 % w)) n
    (λ k l. ap (λ (x : ℕ). p (x % w)) (omega arith))

-- Tests of columns, one for each word of a unit: they pass just where each word of each unit passes its own.
-- Assumes nothing.
use mathlib.Core.Path.{◌≡◌, refl, ap, ◌∙◌}
use mathlib.Core.Bool.{Bool, true, false, ◌&&◌}
use mathlib.Core.List.{List, [], ◌∷◌}
use Prim.Native.Nat.{ℕ, zero, suc, ◌+◌, ◌*◌, ◌<◌}
use native.Mathlib.Omega.{arith}
use native.Mathlib.Nat.{not-suc-le-zero, le_of_suc-le-suc, add-zero, add-suc, suc-add}
use lib.Dec.{ltb}
use lib.ListN.{length, get_or}
use Rattle.base_lists.proofs.Below.{and_first, and_second, and_both, below_at, below-from, below-same, below-and}
use Rattle.machine_sweep.specs.AsCoded.{every_word}

-- The tests of all words of units, one column after the other, from word j of the units on.
abbrev pub every_column : List (ℕ → Bool) → List ℕ → ℕ → ℕ → ℕ → ℕ → Bool
every_column [] m at step j n = true
every_column (t ∷ ts) m at step j n = every_word t m at step j n && every_column ts m at step (suc j) n

pub column-at : (ts : List (ℕ → Bool)) (m : List ℕ) (at step j n : ℕ) → every_column ts m at step j n ≡ true
    → (i u : ℕ) → i < length ts → u < n → get_or ts i (λ y. false) (get_or m (at + step * u + (j + i)) 0) ≡ true
unfolding every_word
column-at [] m at step j n e i u h l = absurd (not-suc-le-zero h)
column-at (t ∷ ts) m at step j n e zero u h l =
    rw (add-zero j) (below_at (λ k. t (get_or m (at + step * k + j) 0)) n (and_first (every_word t m at step j n) (every_column ts m at step (suc j) n) e) u l)
column-at (t ∷ ts) m at step j n e (suc i) u h l =
    rw (add-suc j i, ← (suc-add j i))
    (column-at ts m at step (suc j) n (and_second (every_word t m at step j n) (every_column ts m at step (suc j) n) e) i u (le_of_suc-le-suc h) l)

pub column-from : (ts : List (ℕ → Bool)) (m : List ℕ) (at step j n : ℕ)
    → ((i u : ℕ) → i < length ts → u < n → get_or ts i (λ y. false) (get_or m (at + step * u + (j + i)) 0) ≡ true) → every_column ts m at step j n ≡ true
unfolding every_word
column-from [] m at step j n f = refl
column-from (t ∷ ts) m at step j n f =
    and_both (every_word t m at step j n) (every_column ts m at step (suc j) n)
    (below-from (λ k. t (get_or m (at + step * k + j) 0)) n (λ u l. rw (add-zero j) at (f 0 u (omega arith) l)))
    (column-from ts m at step (suc j) n (λ i u h l. rw (add-suc j i, ← (suc-add j i)) at (f (suc i) u (omega arith) l)))

-- A test that is two tests, word by word.
pub word_and : (p r q : ℕ → Bool) → ((x : ℕ) → q x ≡ (p x && r x)) → (m : List ℕ) (at step j n : ℕ)
    → every_word q m at step j n ≡ (every_word p m at step j n && every_word r m at step j n)
unfolding every_word
word_and p r q h m at step j n =
    below-same (λ k. q (get_or m (at + step * k + j) 0)) (λ k. p (get_or m (at + step * k + j) 0) && r (get_or m (at + step * k + j) 0)) n (λ k l. h (get_or m (at + step * k + j) 0))
    ∙ below-and (λ k. p (get_or m (at + step * k + j) 0)) (λ k. r (get_or m (at + step * k + j) 0)) n

-- A test for each limit.
unfoldable pub limit_tests : List ℕ → List (ℕ → Bool)
limit_tests [] = []
limit_tests (l ∷ ls) = (λ x. ltb x l) ∷ limit_tests ls

pub tests-length : (ls : List ℕ) → length (limit_tests ls) ≡ length ls
unfolding limit_tests
tests-length [] = refl
tests-length (l ∷ ls) = ap suc (tests-length ls)

pub tests-at : (ls : List ℕ) (j x : ℕ) → j < length ls → get_or (limit_tests ls) j (λ y. false) x ≡ ltb x (get_or ls j 0)
unfolding limit_tests
tests-at [] j x h = absurd (not-suc-le-zero h)
tests-at (l ∷ ls) zero x h = refl
tests-at (l ∷ ls) (suc j) x h = tests-at ls j x (le_of_suc-le-suc h)

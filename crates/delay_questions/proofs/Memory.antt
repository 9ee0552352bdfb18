-- Question 10: the or of the words is within a width just where each word is; and what a good delay memory has.
-- Assumes nothing.
use mathlib.Core.Path.{◌≡◌, refl, sym, ◌∙◌}
use mathlib.Core.Bool.{Bool, true, false, ◌&&◌, and-true}
use mathlib.Core.List.{List, [], ◌∷◌}
use Prim.Native.Nat.{ℕ, zero, suc, ◌^◌}
use borrow.Author.Tests.{ltb-true, lt-ltb, eqb-true, eq-eqb}
use lib.Bits.{bit_or}
use lib.Dec.{eqb, ltb}
use lib.ListN.{length, get_or}
use lib.Pow.{pow_pos}
use Rattle.std.specs.Prelude.{fold}
use Rattle.base_lists.specs.Lists.{all_below}
use Rattle.base_lists.proofs.Below.{and_first, and_second, and_both, below_at, below-from}
use Rattle.machine_sweep.proofs.Rows.{or-bits}
use Rattle.layout.specs.Layout.{memory_words}
use Rattle.layout.specs.Machine.{Memory}
use Rattle.delay.proofs.Low.{WordsLow}
use Rattle.delay_questions.specs.Questions.{memory_good}
use Rattle.delay_questions.specs.AsCoded.{ored}

-- A test of the numbers below n + 1: the test of 0, and those of the others.
below_front : (p : ℕ → Bool) (n : ℕ) → all_below p (suc n) ≡ (p 0 && all_below (λ i. p (suc i)) n)
below_front p zero = refl
below_front p (suc n) = rw (below_front p n) (exchanged (p (suc n)) (p 0) (all_below (λ i. p (suc i)) n))
  where
    exchanged : (a b r : Bool) → (a && (b && r)) ≡ (b && (a && r))
    exchanged true b r = refl
    exchanged false true r = refl
    exchanged false false r = refl

-- The or of some words and a first is within a width just where each is.
or_below : (w a : ℕ) (xs : List ℕ) → ltb (fold bit_or a xs) (2 ^ w) ≡ (ltb a (2 ^ w) && all_below (λ i. ltb (get_or xs i 0) (2 ^ w)) (length xs))
or_below w a [] = rw (and-true (ltb a (2 ^ w)))
or_below w a (x ∷ xs) =
    or_below w (bit_or a x) xs
    ∙ rw (or-bits w a x, below_front (λ i. ltb (get_or (x ∷ xs) i 0) (2 ^ w)) (length xs))
    (joined (ltb x (2 ^ w)) (ltb a (2 ^ w)) (all_below (λ i. ltb (get_or xs i 0) (2 ^ w)) (length xs)))
  where
    joined : (a b r : Bool) → ((a && b) && r) ≡ (b && (a && r))
    joined true true r = refl
    joined true false r = refl
    joined false true r = refl
    joined false false r = refl

pub ored-bits : (w : ℕ) (memory : Memory) → ltb (ored memory) (2 ^ w) ≡ all_below (λ i. ltb (get_or memory i 0) (2 ^ w)) (length memory)
unfolding ored
ored-bits w memory = or_below w 0 memory ∙ rw (lt-ltb 0 (2 ^ w) (pow_pos w))

-- The code's two tests.
pub other_length : (memory : Memory) → eqb (length memory) memory_words ≡ false → memory_good memory ≡ false
unfolding memory_good
other_length memory e = rw e

pub right-length : (memory : Memory) → eqb (length memory) memory_words ≡ true → memory_good memory ≡ ltb (ored memory) (2 ^ 20)
unfolding memory_good
right-length memory e = rw e (sym (ored-bits 20 memory))

-- A delay memory that passes question 10, and one that does.
module _ (memory : Memory) where
  pub good_length : memory_good memory ≡ true → length memory ≡ memory_words
  unfolding memory_good
  good_length e = eqb-true (length memory) memory_words (and_first (eqb (length memory) memory_words) (all_below (λ i. ltb (get_or memory i 0) (2 ^ 20)) (length memory)) e)

  pub good-words : memory_good memory ≡ true → WordsLow memory
  unfolding memory_good
  good-words e i h =
      ltb-true (get_or memory i 0) (2 ^ 20)
      (below_at (λ i. ltb (get_or memory i 0) (2 ^ 20)) (length memory)
      (and_second (eqb (length memory) memory_words) (all_below (λ i. ltb (get_or memory i 0) (2 ^ 20)) (length memory)) e) i h)

  pub good-from : length memory ≡ memory_words → WordsLow memory → memory_good memory ≡ true
  unfolding memory_good
  good-from e h =
      and_both (eqb (length memory) memory_words) (all_below (λ i. ltb (get_or memory i 0) (2 ^ 20)) (length memory))
      (eq-eqb (length memory) memory_words e)
      (below-from (λ i. ltb (get_or memory i 0) (2 ^ 20)) (length memory) (λ i l. lt-ltb (get_or memory i 0) (2 ^ 20) (h i l)))

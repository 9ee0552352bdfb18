-- The quarter folded by arithmetic on its number is document 01's, by quarters: one test over the 8,192 values of K.
-- Assumes nothing.
use mathlib.Core.Path.{◌≡◌}
use mathlib.Core.Bool.{Bool, true, ◌&&◌}
use Prim.Native.Nat.{ℕ, ◌*◌, ◌/◌, ◌%◌, ◌<◌}
use lib.Bits.{bit_xor}
use lib.Dec.{eqb}
use borrow.Author.Tests.{eqb-true}
use Rattle.base_lists.proofs.Tests.{below}
use Rattle.base_lists.proofs.Below.{and_first, and_second}
use Rattle.generator_sine.specs.Sine.{index_of, negative, sign_of}

-- The place and the sign by the quarter number's two bits.
folded_index : ℕ → ℕ
folded_index k = bit_xor (k % 2048) (2047 * (k / 2048 % 2))

folded_sign : ℕ → ℕ
folded_sign k = k / 2048 / 2

folds : ℕ → Bool
folds k = eqb (folded_index k) (index_of k) && eqb (folded_sign k) (sign_of k)

fold-all : (k : ℕ) → k < 8192 → folds k ≡ true
unfolding folds folded_index folded_sign index_of sign_of negative
fold-all k h = below folds 8192 tt k h

pub fold-index : (k : ℕ) → k < 8192 → bit_xor (k % 2048) (2047 * (k / 2048 % 2)) ≡ index_of k
unfolding folds folded_index
fold-index k h = eqb-true (folded_index k) (index_of k) (and_first (eqb (folded_index k) (index_of k)) (eqb (folded_sign k) (sign_of k)) (fold-all k h))

pub fold-sign : (k : ℕ) → k < 8192 → k / 2048 / 2 ≡ sign_of k
unfolding folds folded_index folded_sign
fold-sign k h = eqb-true (folded_sign k) (sign_of k) (and_second (eqb (folded_index k) (index_of k)) (eqb (folded_sign k) (sign_of k)) (fold-all k h))

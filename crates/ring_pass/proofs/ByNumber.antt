-- The order by number: what a loop fills, and that it passes questions 5 and 6.
-- Assumes nothing.
use mathlib.Core.Path.{◌≡◌, refl, sym, ◌∙◌}
use mathlib.Core.Bool.{Bool, true, false}
use mathlib.Core.List.{List, [], ◌∷◌}
use Prim.Native.Nat.{ℕ, ◌+◌, ◌≤◌, ◌<◌}
use native.Mathlib.Omega.{arith}
use borrow.Author.Tests.{eqb-true, eqb-false, eq-eqb}
use lib.Dec.{eqb}
use lib.ListN.{length, get_or, set, length-set}
use lib.Seq.{get_or-set_same, get_or-set_other, ext_get_or}
use Rattle.base_lists.specs.Lists.{count}
use Rattle.base_lists.proofs.Below.{below-from}
use Rattle.base_questions.specs.Questions.{asked}
use Rattle.pass_order.specs.Order.{question5, question6, each_once}
use Rattle.base_sequences.specs.Sequences.{by_number}
use Rattle.base_sequences.proofs.ByNumber.{by-number-length, by-number-at, by-number-once}

-- The loop's invariant: 256 entries, of which those below i are filled.
pub record Filled (order : List ℕ) (i : ℕ) : Type 0 where
  pub size : length order ≡ 256
  pub within : i ≤ 256
  pub entry : (k : ℕ) → k < i → get_or order k 0 ≡ k

pub none_filled : (order : List ℕ) → length order ≡ 256 → Filled order 0
none_filled order e = record { size = e; within = omega arith; entry = λ k h. absurd (omega arith) }

pub fills : (order : List ℕ) (i : ℕ) → Filled order i → i < 256 → Filled (set order i i) (i + 1)
fills order i f h =
    record {
      size = length-set order i i ∙ f.size;
      within = omega arith;
      entry = λ k l. go k l (eqb k i) refl;
    }
  where
    go : (k : ℕ) → k < i + 1 → (b : Bool) → eqb k i ≡ b → get_or (set order i i) k 0 ≡ k
    go k l true e = let q = eqb-true k i e in rw q (get_or-set_same order i i 0 (omega (arith, f.size)))
    go k l false e =
        let q = eqb-false k i e in
        get_or-set_other order i k i 0 q ∙ f.entry k (omega (arith, q))

pub all-filled : (order : List ℕ) (i : ℕ) → Filled order i → 256 ≤ i → order ≡ by_number 256
all-filled order i f h =
    ext_get_or 0 order (by_number 256) (f.size ∙ sym (by-number-length 256))
    (λ k l. f.entry k (omega (arith, f.size)) ∙ sym (by-number-at 256 k (omega (arith, f.size))))

-- It passes questions 5 and 6.
pub by-number-passes : (t : ℕ) → asked (question5 t (by_number t) ∷ question6 t (by_number t) ∷ []) ≡ 0
unfolding asked each_once
by-number-passes t =
    rw (eq-eqb (length (by_number t)) t (by-number-length t), below-from (λ g. eqb (count g (by_number t)) 1) t (λ k h. eq-eqb (count k (by_number t)) 1 (by-number-once t k h)))

-- Which question refuses a chain, as the code asks them.
-- Assumes nothing.
use mathlib.Core.Path.{◌≡◌, refl, sym, ◌∙◌}
use mathlib.Core.Bool.{Bool, true, false, cond, true≢false}
use mathlib.Core.List.{List}
use Prim.Native.Nat.{ℕ, suc, ◌+◌, ◌-◌, ◌≤◌, ◌<◌}
use native.Mathlib.Omega.{arith}
use borrow.Author.Tests.{ltb-true, ltb-false, lt-ltb, le-ltb}
use lib.Dec.{ltb}
use Rattle.base_lists.specs.Lists.{all_below}
use Rattle.base_lists.proofs.Below.{below_at, below-from}
use Rattle.base_fills.specs.Fills.{filled}
use Rattle.base_questions.specs.Questions.{asked}
use Rattle.chain_entries.specs.Entries.{Chain, size, chain_good}
use Rattle.chain_entries.specs.Fits.{Fits}
use Rattle.chain_entries.proofs.Fitting.{good-chain}
use Rattle.chain_numbers.specs.Earliest.{modifiers, earliest}
use Rattle.chain_numbers.proofs.Earliest.{earliest-above, earliest-most}
use Rattle.chain.specs.Chain.{numbers_fit, chain_refusal}

-- The number by the answers to the two questions.
abbrev pub number_by : Bool → Bool → ℕ
number_by a b = cond a (cond b 0 15) 14

-- A test that fails somewhere below n doesn't pass everywhere.
fails-at : (p : ℕ → Bool) (n k : ℕ) → k < n → p k ≡ false → all_below p n ≡ false
fails-at p n k l e = go (all_below p n) refl
  where
    go : (b : Bool) → all_below p n ≡ b → b ≡ false
    go true q = absurd (true≢false (sym (below_at p n q k l) ∙ e))
    go false q = refl

module _ (c : Chain) where
  -- Question 15 where some number is no modifier's, and where the last one is.
  pub past-fails : (i : ℕ) → i < size c → modifiers ≤ earliest c i → numbers_fit c ≡ false
  unfolding numbers_fit
  past-fails i h l = fails-at (λ i. ltb (earliest c i) modifiers) (size c) i h (le-ltb (earliest c i) modifiers l)

  last_fits : Fits c → (n : ℕ) → size c ≡ suc n → earliest c n < modifiers → numbers_fit c ≡ true
  unfolding numbers_fit
  last_fits fit n e l =
      below-from (λ i. ltb (earliest c i) modifiers) (size c)
      (λ i h. lt-ltb (earliest c i) modifiers (omega (arith, l, earliest-most c fit n i (omega arith) (omega arith))))

  -- The number by the answers to the questions, and the answers by the number.
  pub number_by-is : chain_refusal c ≡ number_by (chain_good c) (numbers_fit c)
  unfolding chain_refusal asked
  number_by-is = refl

  pub both_yes : chain_refusal c ≡ 0 → (chain_good c ≡ true) × (numbers_fit c ≡ true)
  both_yes e = go (chain_good c) (numbers_fit c) (sym number_by-is ∙ e)
    where
      go : (a b : Bool) → number_by a b ≡ 0 → (a ≡ true) × (b ≡ true)
      go true true q = (refl, refl)
      go true false q = absurd (omega (arith, q))
      go false b q = absurd (omega (arith, q))

  refused-14 : chain_good c ≡ false → 14 ≡ chain_refusal c
  refused-14 e = rw (number_by-is, e)

  refused-15 : chain_good c ≡ true → numbers_fit c ≡ false → 15 ≡ chain_refusal c
  refused-15 e f = rw (number_by-is, e, f)

  none-refused : chain_good c ≡ true → numbers_fit c ≡ true → 0 ≡ chain_refusal c
  none-refused e f = rw (number_by-is, e, f)

  -- A chain that is not refused has low numbers, and no more entries than there are modifiers.
  module _ (e : chain_refusal c ≡ 0) where
    pub fitting : Fits c
    fitting = good-chain c (both_yes e).0

    pub low : (i : ℕ) → i < size c → earliest c i < modifiers
    unfolding numbers_fit
    low i h = ltb-true (earliest c i) modifiers (below_at (λ i. ltb (earliest c i) modifiers) (size c) (both_yes e).1 i h)

    pub few : size c ≤ modifiers
    few = go (ltb modifiers (size c)) refl
      where
        go : (b : Bool) → ltb modifiers (size c) ≡ b → size c ≤ modifiers
        go true q = let h = ltb-true modifiers (size c) q in absurd (omega (arith, low modifiers h, earliest-above c fitting modifiers h))
        go false q = ltb-false modifiers (size c) q

  -- What the code answers and leaves: the number, and where it is 0 the numbers of the entries.
  abbrev Refused : ℕ → List ℕ → List ℕ → Type 0
  Refused n run left = (n ≡ chain_refusal c) × (n ≡ 0 → left ≡ filled 0 1 (size c) (earliest c) run)

  module _ (run : List ℕ) where
    pub not-fitting : chain_good c ≡ false → Refused 14 run run
    not-fitting e = (refused-14 e, λ z. absurd (omega (arith, z)))

    module _ (e : chain_good c ≡ true) where
      pub no-entry : size c ≡ 0 → Refused 0 run run
      unfolding numbers_fit filled
      no-entry none = (none-refused e (rw none), λ z. rw none)

      pub too_many : modifiers < size c → Refused 15 run run
      too_many l = (refused-15 e (past-fails modifiers l (earliest-above c (good-chain c e) modifiers l)), λ z. absurd (omega (arith, z)))

      module _ (some : size c ≡ 0 → ⊥) {last : ℕ} {left : List ℕ}
          (found : (last ≡ earliest c (size c - 1)) × (left ≡ filled 0 1 (size c - 1 + 1) (earliest c) run)) where
        pub last-past : 127 < last → Refused 15 run left
        last-past l = (refused-15 e (past-fails (size c - 1) (omega (arith, some)) (rw found.0 at l)), λ z. absurd (omega (arith, z)))

        pub all-low : last ≤ 127 → Refused 0 run left
        all-low l =
            let n : size c - 1 + 1 ≡ size c = omega (arith, some) in
            (none-refused e (last_fits (good-chain c e) (size c - 1) (omega (arith, some)) (omega (arith, l, found.0))), λ z. rw n at found.1)

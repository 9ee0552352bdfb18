-- What the call's answer claims: the numbers are a numbering, the least at each entry, and refused only where none fits.
-- Assumes nothing.
use mathlib.Core.Path.{◌≡◌, refl, sym, ap, ◌∙◌}
use mathlib.Core.Logic.{◌↔◌}
use mathlib.Core.Bool.{Bool, true, false, ◌&&◌, true≢false}
use mathlib.Core.List.{List}
use Prim.Native.Nat.{ℕ, zero, suc, ◌+◌, ◌*◌, ◌≤◌, ◌<◌}
use native.Mathlib.Omega.{arith}
use borrow.Author.Tests.{ltb-false}
use lib.Dec.{ltb, lit<}
use lib.ListN.{length, get_or}
use Rattle.base_lists.specs.Lists.{all_below}
use Rattle.base_fills.proofs.Filled.{filled_at}
use Rattle.chain_entries.specs.Entries.{Chain, size, name_of, chain_good}
use Rattle.chain_entries.specs.Fits.{Fits}
use Rattle.chain_entries.proofs.Fitting.{good-chain, fits-chain}
use Rattle.chain_numbers.specs.Earliest.{modifiers, earliest}
use Rattle.chain_numbers.specs.Numberings.{Numbering, PassesLast}
use Rattle.chain_numbers.proofs.Earliest.{earliest-numbering, earliest-least}
use Rattle.chain.specs.Chain.{numbers_fit, chain_refusal, chain_of}
use Rattle.chain.proofs.Refusals.{number_by, number_by-is, past-fails, fitting, low, few}

-- Where the earliest numbers pass 127, so does every numbering.
module _ (c : Chain) (fit : Fits c) (f : ℕ → ℕ) (n : Numbering c f) where
  passes-below : (k : ℕ) → k ≤ size c → all_below (λ i. ltb (earliest c i) modifiers) k ≡ false → PassesLast c f
  passes-below zero l z = absurd (true≢false z)
  passes-below (suc k) l z = at (ltb (earliest c k) modifiers) refl (λ y. passes-below k (omega arith) y) z
    where
      at : (b : Bool) → ltb (earliest c k) modifiers ≡ b → (all_below (λ i. ltb (earliest c i) modifiers) k ≡ false → PassesLast c f)
          → (b && all_below (λ i. ltb (earliest c i) modifiers) k) ≡ false → PassesLast c f
      at true y lower x = lower x
      at false y lower x =
          record { entry = k; inside = omega arith; past = omega (arith, ltb-false (earliest c k) modifiers y, earliest-least c fit f n k (omega arith)) }

  passes-last : numbers_fit c ≡ false → PassesLast c f
  unfolding numbers_fit
  passes-last b = passes-below (size c) (omega arith) b

module _ (c : Chain) (run : List ℕ) where
  number_is : (chain_of c run).number ≡ number_by (chain_good c) (numbers_fit c)
  unfolding chain_of
  number_is = number_by-is c

  -- 14 just where the chain doesn't fit.
  pub chain-names : ((chain_of c run).number ≡ 14) ↔ (¬ (Fits c))
  chain-names = (
    λ e f. other (numbers_fit c) (ap (λ (a : Bool). number_by a (numbers_fit c)) (sym (fits-chain c f)) ∙ sym number_is ∙ e),
    λ n. number_is ∙ go (chain_good c) refl n,
  )
    where
      other : (b : Bool) → number_by true b ≡ 14 → ⊥
      other true q = omega (arith, q)
      other false q = omega (arith, q)

      go : (a : Bool) → chain_good c ≡ a → (¬ (Fits c)) → number_by a (numbers_fit c) ≡ 14
      go true e n = absurd (n (good-chain c e))
      go false e n = refl

  -- 15 just where it fits and every numbering passes 127.
  pub chain-none : ((chain_of c run).number ≡ 15) ↔ (Fits c × ((f : ℕ → ℕ) → Numbering c f → PassesLast c f))
  chain-none = (refused, none)
    where
      only : (a b : Bool) → number_by a b ≡ 15 → (a ≡ true) × (b ≡ false)
      only true true q = absurd (omega (arith, q))
      only true false q = (refl, refl)
      only false b q = absurd (omega (arith, q))

      refused : (chain_of c run).number ≡ 15 → Fits c × ((f : ℕ → ℕ) → Numbering c f → PassesLast c f)
      refused e =
          let q = only (chain_good c) (numbers_fit c) (sym number_is ∙ e) in
          let fit = good-chain c q.0 in
          (fit, λ f n. passes-last c fit f n q.1)

      none : (Fits c × ((f : ℕ → ℕ) → Numbering c f → PassesLast c f)) → (chain_of c run).number ≡ 15
      none p =
          let q = p.1 (earliest c) (earliest-numbering c p.0) in
          number_is ∙ rw (fits-chain c p.0, past-fails c q.entry q.inside q.past)

  module _ (long : length run ≡ modifiers) (e : (chain_of c run).number ≡ 0) where
    none : chain_refusal c ≡ 0
    unfolding chain_of
    none = e

    fit : Fits c
    fit = fitting c none

    -- The numbers given are the earliest.
    given : (i : ℕ) → i < size c → get_or (chain_of c run).numbers i 0 ≡ earliest c i
    unfolding chain_of
    given i h =
        let place : 0 + 1 * i ≡ i = omega arith in
        rw none (rw place at (filled_at 0 1 (size c) (earliest c) run i (lit< tt) h (omega (arith, few c none))))

    pub chain-numbers : Numbering c (λ i. get_or (chain_of c run).numbers i 0) × ((i : ℕ) → i < size c → get_or (chain_of c run).numbers i 0 < modifiers)
    chain-numbers = (
      record {
        rise = λ i h. rw (given i (omega arith), given (suc i) h) ((earliest-numbering c fit).rise i h);
        seen = λ i k h l.
            let b = fit.earlier i k h l in
            rw (given i h, given (name_of c i k) (omega arith)) ((earliest-numbering c fit).seen i k h l);
      },
      λ i h. rw (given i h) (low c none i h),
    )

    pub chain-least : (f : ℕ → ℕ) → Numbering c f → (i : ℕ) → i < size c → get_or (chain_of c run).numbers i 0 ≤ f i
    chain-least f n i h = rw (given i h) (earliest-least c fit f n i h)

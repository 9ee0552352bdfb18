-- What the call answers and leaves, by the number of the refusing question.
-- Assumes nothing.
use mathlib.Core.Path.{◌≡◌, ◌∙◌}
use mathlib.Core.Logic.{◌≢◌}
use mathlib.Core.List.{List}
use Prim.Native.Nat.{ℕ, ◌+◌, ◌*◌, ◌≤◌, ◌<◌}
use native.Mathlib.Omega.{arith}
use borrow.Author.Tests.{ne_eqb}
use lib.Dec.{lit<}
use lib.ListN.{length, get_or}
use Rattle.base_fills.specs.Fills.{filled}
use Rattle.base_fills.proofs.Filled.{filled_at, filled-same}
use Rattle.chain_entries.specs.Entries.{Chain, size}
use Rattle.chain_numbers.specs.Earliest.{modifiers, earliest}
use Rattle.chain.specs.Chain.{chain_refusal, Numbered, chain_of}

module _ (c : Chain) (run : List ℕ) where
  pub run-left : {number : ℕ} → number ≡ chain_refusal c → number ≢ 0 → ◌≡◌ {A = Numbered} (record { number = number; numbers = run }) (chain_of c run)
  unfolding chain_of
  run-left {number} e h = rw (← e, ne_eqb number 0 h)

  pub numbers-put : 0 ≡ chain_refusal c → {numbers : List ℕ} → numbers ≡ filled 0 1 (size c) (earliest c) run
      → ◌≡◌ {A = Numbered} (record { number = 0; numbers = numbers }) (chain_of c run)
  unfolding chain_of
  numbers-put e p = rw (← e, p)

  -- Numbers that were found elsewhere and put are the same.
  pub found-put : 0 ≡ chain_refusal c → size c ≤ modifiers → (zero-run found : List ℕ) → length zero-run ≡ modifiers → found ≡ filled 0 1 (size c) (earliest c) zero-run
      → {numbers : List ℕ} → numbers ≡ filled 0 1 (size c) (λ k. get_or found k 0) run → ◌≡◌ {A = Numbered} (record { number = 0; numbers = numbers }) (chain_of c run)
  found-put e few zero-run found long q p = numbers-put e (p ∙ filled-same 0 1 (size c) (λ k. get_or found k 0) (earliest c) run each)
    where
      each : (k : ℕ) → k < size c → get_or found k 0 ≡ earliest c k
      each k l =
          let place : 0 + 1 * k ≡ k = omega arith in
          rw q (rw place at (filled_at 0 1 (size c) (earliest c) zero-run k (lit< tt) l (omega arith)))

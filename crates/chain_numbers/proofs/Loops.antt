-- The loop over the names of an entry, and the numbers put so far, one step at a time.
-- Assumes nothing.
use mathlib.Core.Path.{◌≡◌, refl, ap, ◌∙◌}
use mathlib.Core.List.{List}
use Prim.Native.Nat.{ℕ, ◌+◌, ◌-◌, ◌*◌, max}
use native.Mathlib.Omega.{arith}
use native.Mathlib.Numerals.{add-one}
use lib.ListN.{get_or, set}
use Rattle.base_fills.specs.Fills.{filled}
use Rattle.base_fills.proofs.Filled.{filled_next}
use Rattle.chain_entries.specs.Entries.{end_of, start_of, names_in}
use Rattle.chain_numbers.specs.Earliest.{lag, highest}
use Rattle.chain_numbers.specs.AsCoded.{Waiting}

-- One name more is waited on.
pub highest-next : (f : ℕ → ℕ) (names : List ℕ) (at k least : ℕ) {h w r : ℕ} → h ≡ highest f names at k least → w ≡ f (get_or names (at + k) 0) → r ≡ max h w
    → r ≡ highest f names at (k + 1) least
unfolding highest
highest-next f names at k least e g q = rw (add-one k) (q ∙ rw (e, g))

-- One number more is put.
pub put_next : (f : ℕ → ℕ) (run : List ℕ) (k : ℕ) {now : List ℕ} {v : ℕ} → now ≡ filled 0 1 k f run → v ≡ f k → set now k v ≡ filled 0 1 (k + 1) f run
put_next f run k {now} {v} e g =
    let place : k ≡ 0 + 1 * k = omega arith in
    ap (λ (x : ℕ). set now k x) g ∙ ap (λ (i : ℕ). set now i (f k)) place ∙ filled_next 0 1 k f run e

-- Nothing is waited on yet.
pub highest-none : (f : ℕ → ℕ) (names : List ℕ) (at least : ℕ) → least ≡ highest f names at 0 least
unfolding highest
highest-none f names at least = refl

-- The names of an entry by where they begin and end, and its lag.
module _ (entries names numbers : List ℕ) (i : ℕ) {from to : ℕ} (f : from ≡ start_of entries i) (t : to ≡ end_of entries i) where
  pub waiting-at : Waiting names numbers (start_of entries i) (names_in entries i) → Waiting names numbers from (to - from)
  waiting-at w = rw (f, t) w

  pub highest-by : (least : ℕ) {g r : ℕ} → g ≡ lag entries i → r ≡ highest (λ j. get_or numbers j 0 + g) names from (to - from) least
      → r ≡ highest (λ j. get_or numbers j 0 + lag entries i) names (start_of entries i) (names_in entries i) least
  highest-by least e q = rw (← f, ← t, ← e) q

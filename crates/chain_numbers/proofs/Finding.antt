-- The numbers found so far: those of the entries before, and one more.
-- Assumes nothing.
use mathlib.Core.Path.{◌≡◌, sym, ap, ◌∙◌}
use mathlib.Core.Bool.{true}
use mathlib.Core.List.{List}
use Prim.Native.Nat.{ℕ, suc, ◌+◌, ◌-◌, ◌*◌, ◌≤◌, ◌<◌}
use native.Mathlib.Omega.{arith}
use lib.Dec.{lit<}
use lib.ListN.{length, get_or, set}
use Rattle.base_fills.specs.Fills.{filled}
use Rattle.base_fills.proofs.Filled.{filled_none, filled_at}
use Rattle.chain_entries.specs.Entries.{Chain, size, end_of, start_of, names_in, name_of, chain_good}
use Rattle.chain_entries.specs.Fits.{Fits}
use Rattle.chain_entries.proofs.Fitting.{good-chain}
use Rattle.chain_numbers.specs.Earliest.{lag, highest, earliest, modifiers}
use Rattle.chain_numbers.specs.AsCoded.{Waiting}
use Rattle.chain_numbers.proofs.Highest.{highest-same}
use Rattle.chain_numbers.proofs.Earliest.{earliest-first, earliest-next, earliest-small}
use Rattle.chain_numbers.proofs.Loops.{put_next}

-- What the number of an entry answers and leaves.
abbrev pub Found : Chain → ℕ → List ℕ → ℕ → List ℕ → Type 0
Found c i run r left = (r ≡ earliest c i) × (left ≡ filled 0 1 (i + 1) (earliest c) run)

-- The first entry.
pub found-first-entry : (c : Chain) (i : ℕ) (run : List ℕ) → i ≡ 0 → Found c i run 0 (set run 0 0)
found-first-entry c i run e =
    rw e (sym (earliest-first c), put_next (earliest c) run 0 (filled_none 0 1 (earliest c) run) (sym (earliest-first c)))

module _ (c : Chain) (e : chain_good c ≡ true) (i : ℕ) (later : i ≡ 0 → ⊥) (inside : i < size c) where
  good : Fits c
  good = good-chain c e

  -- The number before it is small.
  pub before_small : {r : ℕ} → r ≡ earliest c (i - 1) → r ≤ 4 * (i - 1)
  before_small q = rw q (earliest-small c good (i - 1) (omega arith))

  module _ (few : i < modifiers) (run left : List ℕ) (before : ℕ) (long : length run ≡ modifiers) (found : Found c (i - 1) run before left) where
    left_is : left ≡ filled 0 1 i (earliest c) run
    left_is = let p : i - 1 + 1 ≡ i = omega (arith, later) in found.1 ∙ ap (λ (k : ℕ). filled 0 1 k (earliest c) run) p

    left_at : (j : ℕ) → j < i → get_or left j 0 ≡ earliest c j
    left_at j h =
        let p : 0 + 1 * j ≡ j = omega arith in
        rw left_is (rw p at (filled_at 0 1 i (earliest c) run j (lit< tt) h (omega arith)))

    -- What the entry asks of its names and of the numbers before it.
    pub is-waiting : (2 * i + 1 < length c.entries) × (start_of c.entries i ≤ end_of c.entries i)
        × Waiting c.names left (start_of c.entries i) (names_in c.entries i)
    is-waiting = (
      omega arith,
      good.rises i inside,
      record {
        within = omega (arith, good.rises i inside, good.inside i inside);
        below = λ k h. omega (arith, good.earlier i k inside h);
        small = λ k h.
            let l = good.earlier i k inside h in
            rw (left_at (name_of c i k) l) (omega (arith, earliest-small c good (name_of c i k) (omega arith)));
      },
    )

    -- Its number.
    pub found-later-entry : {r : ℕ}
        → r ≡ highest (λ j. get_or left j 0 + lag c.entries i) c.names (start_of c.entries i) (names_in c.entries i) (before + 1)
        → Found c i run r (set left i r)
    found-later-entry {r} q = (number, put_next (earliest c) run i left_is number)
      where
        next : (k : ℕ) → i ≡ suc k → earliest c i
            ≡ highest (λ j. earliest c j + lag c.entries i) c.names (start_of c.entries i) (names_in c.entries i) (earliest c (i - 1) + 1)
        next k z =
            let p : suc k - 1 ≡ k = omega arith in
            rw z (rw p (earliest-next c good k (omega arith)))

        number : r ≡ earliest c i
        number =
            q
            ∙ highest-same c.names (start_of c.entries i) (λ j. get_or left j 0 + lag c.entries i) (λ j. earliest c j + lag c.entries i) (names_in c.entries i) (before + 1)
            (λ k h. ap (λ (x : ℕ). x + lag c.entries i) (left_at (name_of c i k) (good.earlier i k inside h)))
            ∙ ap (λ (x : ℕ). highest (λ j. earliest c j + lag c.entries i) c.names (start_of c.entries i) (names_in c.entries i) (x + 1)) found.0
            ∙ sym (next (i - 1) (omega (arith, later)))

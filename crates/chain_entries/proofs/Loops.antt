-- Where names begin, and the loops over names and entries, one step at a time.
-- Assumes nothing.
use mathlib.Core.Path.{◌≡◌, refl, sym, ap, ◌∙◌}
use mathlib.Core.Bool.{Bool, true, false, true≢false}
use mathlib.Core.List.{List}
use Prim.Native.Nat.{ℕ, zero, suc, ◌-◌, ◌<◌}
use native.Mathlib.Omega.{arith}
use lib.ListN.{length, get_or}
use Rattle.std.specs.Bool.{MatchBool}
use Rattle.std.specs.List.{range_with_len, AllWithin, HoldsAt}
use Rattle.std.proofs.lemmas.List.FromFn.{length-range_with_len, get_or-range_with_len}
use Rattle.base_lists.specs.Lists.{all_below}
use Rattle.base_lists.proofs.Below.{below_at, below-from}
use Rattle.chain_entries.specs.Entries.{end_of, start_of}

-- Where the names of an entry begin.
pub start_first : (entries : List ℕ) (i : ℕ) → i ≡ 0 → 0 ≡ start_of entries i
unfolding start_of
start_first entries i e = rw e

pub start-later : (entries : List ℕ) (i : ℕ) {r : ℕ} → (i ≡ 0 → ⊥) → r ≡ end_of entries (i - 1) → r ≡ start_of entries i
unfolding start_of
start-later entries zero n e = absurd (n refl)
start-later entries (suc i) n e = e ∙ ap (λ (k : ℕ). end_of entries k) (omega arith)

-- What a test of each number below n tells: whether it passes at all of them.
pub tested : (p : ℕ → Bool) (n : ℕ) {r : Bool}
    → MatchBool r (AllWithin (λ k. p k ≡ true) (range_with_len 0 n) 0 (length (range_with_len 0 n)))
    ((k : ℕ) × (k < length (range_with_len 0 n)) × HoldsAt (λ k. p k ≡ false) (range_with_len 0 n) k)
    → r ≡ all_below p n
tested p n {r} e = go r e
  where
    is : (k : ℕ) → k < n → p (get_or (range_with_len 0 n) k 0) ≡ p k
    is k h = let at : get_or (range_with_len 0 n) k 0 ≡ k = omega (arith, get_or-range_with_len 0 n k 0 h) in ap p at

    fails : (k : ℕ) → k < n → p k ≡ false → (b : Bool) → all_below p n ≡ b → false ≡ b
    fails k h z true q = absurd (true≢false (sym (below_at p n q k h) ∙ z))
    fails k h z false q = refl

    go : (b : Bool)
        → MatchBool b (AllWithin (λ k. p k ≡ true) (range_with_len 0 n) 0 (length (range_with_len 0 n)))
        ((k : ℕ) × (k < length (range_with_len 0 n)) × HoldsAt (λ k. p k ≡ false) (range_with_len 0 n) k)
        → b ≡ all_below p n
    go true h = sym (below-from p n (λ k l. sym (is k l) ∙ h k 0 (omega arith) (rw (length-range_with_len 0 n) l)))
    go false h =
        let l : h.0 < n = rw (length-range_with_len 0 n) at h.1 in
        fails h.0 l (sym (is h.0 l) ∙ h.2 0) (all_below p n) refl

-- The numbers of a chain are far enough apart for the views of a pass: what is taken of the writes reaches past the one that is named.
-- Assumes nothing.
use mathlib.Core.Path.{◌≡◌, refl, ap}
use mathlib.Core.Bool.{Bool, true, false, cond}
use mathlib.Core.List.{List, [], ◌∷◌, ◌++◌}
use Prim.Native.Nat.{ℕ, suc, ◌+◌, ◌-◌, ◌≤◌, ◌<◌}
use native.Mathlib.Omega.{arith}
use lib.ListN.{length, get_or, take}
use Rattle.pass_model.specs.Modifiers.{Write, with_writes, early_lag, late_lag, early_view, late_view}
use Rattle.chain_entries.specs.Entries.{Chain, size, is_early, names_in, name_of}
use Rattle.chain_numbers.specs.Earliest.{modifiers, lag}
use Rattle.chain.specs.Chain.{chain_of}
use Rattle.chain.proofs.Claimed.{chain-numbers}
use Rattle.chain_views.specs.Sees.{Sees}

-- Of some writes, all up to one and so many more.
take_past : (before : List Write) (w : Write) (after : List Write) (k more : ℕ) → k ≡ length before + suc more
    → take k (before ++ (w ∷ after)) ≡ before ++ (w ∷ take more after)
take_past [] w after k more e = let s : k ≡ suc more = omega arith in rw s
take_past (x ∷ before) w after k more e =
    let s : k ≡ suc (length before + suc more) = omega arith in
    rw s (ap (λ (l : List Write). x ∷ l) (take_past before w after (length before + suc more) more refl))

-- A reader that stands its lag above a writer sees that write.
sees-above : (early : Bool) (m n : ℕ) → n + cond early early_lag late_lag ≤ m → Sees early m n
unfolding early_view late_view
sees-above true m n h =
    record { more = m - early_lag - n; view = λ q before w after e. ap (with_writes q) (take_past before w after (m + 1 - early_lag) (m - early_lag - n) (omega arith)) }
sees-above false m n h =
    record { more = m - late_lag - n; view = λ q before w after e. ap (with_writes q) (take_past before w after (m + 1 - late_lag) (m - late_lag - n) (omega arith)) }

-- The lag of an entry is that of its view.
lag-is : (entries : List ℕ) (i : ℕ) → lag entries i ≡ cond (is_early entries i) early_lag late_lag
unfolding lag
lag-is entries i = refl

pub chain-sees : (c : Chain) (run : List ℕ) → length run ≡ modifiers → (chain_of c run).number ≡ 0 → (i k : ℕ) → i < size c → k < names_in c.entries i
    → Sees (is_early c.entries i) (get_or (chain_of c run).numbers i 0) (get_or (chain_of c run).numbers (name_of c i k) 0)
chain-sees c run long e i k h l =
    let f = (chain_of c run).numbers in
    sees-above (is_early c.entries i) (get_or f i 0) (get_or f (name_of c i k) 0) (rw (lag-is c.entries i) at ((chain-numbers c run long e).0.seen i k h l))

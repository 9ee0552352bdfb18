-- What stands at each place of a filled run, by the number of words filled.
-- Assumes nothing.
use mathlib.Core.Path.{◌≡◌, refl, ap, ◌∙◌}
use mathlib.Core.Logic.{◌≢◌}
use mathlib.Core.Bool.{Bool, true, false}
use mathlib.Core.List.{List}
use Prim.Native.Nat.{ℕ, zero, suc, ◌+◌, ◌*◌, ◌≤◌, ◌<◌}
use native.Mathlib.Omega.{arith}
use native.Mathlib.Nat.{mul-suc, mul-le-mul_left}
use native.Mathlib.Numerals.{add-one}
use borrow.Author.Tests.{eqb-true, eqb-false}
use lib.Dec.{eqb, lit<}
use lib.ListN.{length, get_or, set, length-set}
use lib.Seq.{get_or-set_same, get_or-set_other}
use Rattle.base_fills.specs.Fills.{filled}

-- The places are different, and the last is the highest.
pub steps_apart : (step k n : ℕ) → k < n → step * k + step ≤ step * n
steps_apart step k n h = rw (← (mul-suc step k)) (mul-le-mul_left step h)

pub filled-length : (at step n : ℕ) (f : ℕ → ℕ) (run : List ℕ) → length (filled at step n f run) ≡ length run
unfolding filled
filled-length at step zero f run = refl
filled-length at step (suc n) f run = length-set (filled at step n f run) (at + step * n) (f n) ∙ filled-length at step n f run

pub filled-other : (at step n : ℕ) (f : ℕ → ℕ) (run : List ℕ) (i : ℕ) → ((k : ℕ) → k < n → i ≢ at + step * k) → get_or (filled at step n f run) i 0 ≡ get_or run i 0
unfolding filled
filled-other at step zero f run i apart = refl
filled-other at step (suc n) f run i apart =
    get_or-set_other (filled at step n f run) (at + step * n) i (f n) 0 (apart n (omega arith))
    ∙ filled-other at step n f run i (λ k h. apart k (omega arith))

pub filled_at : (at step n : ℕ) (f : ℕ → ℕ) (run : List ℕ) (k : ℕ) → 0 < step → k < n → at + step * k < length run
    → get_or (filled at step n f run) (at + step * k) 0 ≡ f k
unfolding filled
filled_at at step zero f run k p h inside = absurd (omega arith)
filled_at at step (suc n) f run k p h inside = go (eqb k n) refl (λ low. filled_at at step n f run k p low inside)
  where
    go : (b : Bool) → eqb k n ≡ b → (k < n → get_or (filled at step n f run) (at + step * k) 0 ≡ f k)
        → get_or (set (filled at step n f run) (at + step * n) (f n)) (at + step * k) 0 ≡ f k
    go true e earlier =
        rw (eqb-true k n e)
        (get_or-set_same (filled at step n f run) (at + step * n) (f n) 0 (rw (filled-length at step n f run) (rw (eqb-true k n e) at inside)))
    go false e earlier =
        let low : k < n = omega (arith, eqb-false k n e) in
        get_or-set_other (filled at step n f run) (at + step * n) (at + step * k) (f n) 0 (λ z. omega (arith, z, steps_apart step k n low))
        ∙ earlier low

-- By rules that give the same.
pub filled-same : (at step n : ℕ) (f g : ℕ → ℕ) (run : List ℕ) → ((k : ℕ) → k < n → f k ≡ g k) → filled at step n f run ≡ filled at step n g run
unfolding filled
filled-same at step zero f g run e = refl
filled-same at step (suc n) f g run e =
    rw (e n (omega arith)) (ap (λ (r : List ℕ). set r (at + step * n) (g n)) (filled-same at step n f g run (λ k h. e k (omega arith))))

-- A loop that fills: no word yet, and one more.
pub filled_none : (at step : ℕ) (f : ℕ → ℕ) (run : List ℕ) → run ≡ filled at step 0 f run
unfolding filled
filled_none at step f run = refl

pub filled_next : (at step k : ℕ) (f : ℕ → ℕ) (run : List ℕ) {now : List ℕ} → now ≡ filled at step k f run
    → set now (at + step * k) (f k) ≡ filled at step (k + 1) f run
unfolding filled
filled_next at step k f run e = rw (add-one k, e)

-- A run of which every word is filled.
pub filled-whole : (f : ℕ → ℕ) (run : List ℕ) (i : ℕ) → i < length run → get_or (filled 0 1 (length run) f run) i 0 ≡ f i
filled-whole f run i h =
    let place : 0 + 1 * i ≡ i = omega arith in
    rw place at (filled_at 0 1 (length run) f run i (lit< tt) h (omega arith))

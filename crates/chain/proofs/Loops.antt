-- The numbers put so far, and one more.
-- Assumes nothing.
use mathlib.Core.Path.{◌≡◌, ap, ◌∙◌}
use mathlib.Core.List.{List}
use Prim.Native.Nat.{ℕ, ◌+◌, ◌*◌}
use native.Mathlib.Omega.{arith}
use lib.ListN.{set}
use Rattle.base_fills.specs.Fills.{filled}
use Rattle.base_fills.proofs.Filled.{filled_next}

pub put_next : (f : ℕ → ℕ) (run : List ℕ) (k : ℕ) {now : List ℕ} → now ≡ filled 0 1 k f run → set now k (f k) ≡ filled 0 1 (k + 1) f run
put_next f run k {now} e =
    let place : k ≡ 0 + 1 * k = omega arith in
    ap (λ (i : ℕ). set now i (f k)) place ∙ filled_next 0 1 k f run e

-- Fills as the code makes them are those of the definitions.
-- Assumes nothing.
use mathlib.Core.Path.{◌≡◌, ◌∙◌}
use mathlib.Core.Bool.{true, false, ◌&&◌}
use mathlib.Core.List.{List}
use Prim.Native.Nat.{ℕ, ◌+◌, ◌*◌}
use native.Mathlib.Omega.{arith}
use lib.Dec.{eqb}
use Rattle.layout.specs.Layout.{generators}
use Rattle.base_fills.specs.Fills.{filled}
use Rattle.base_fills.proofs.Filled.{filled-same}
use Rattle.parts_model.specs.Contents.{item_for}

-- Two counts, one after the other.
pub counted : (first-at second_at step n a b c d : ℕ) (f g : ℕ → ℕ) {base run first second : List ℕ} → ((k : ℕ) → a + b * k ≡ f k) → ((k : ℕ) → c + d * k ≡ g k)
    → run ≡ base → first ≡ filled first-at step n (λ k. a + b * k) run → second ≡ filled second_at step n (λ k. c + d * k) first
    → second ≡ filled second_at step n g (filled first-at step n f base)
counted first-at second_at step n a b c d f g {base} {run} {first} is_f is-g e e₁ e₂ =
    let inner : first ≡ filled first-at step n f base = e₁ ∙ rw e (filled-same first-at step n (λ k. a + b * k) f base (λ k h. is_f k)) in
    e₂ ∙ filled-same second_at step n (λ k. c + d * k) g first (λ k h. is-g k) ∙ rw inner

-- The items that count, and those that are 0.
pub items-count : (point s n : ℕ) (run : List ℕ) → (eqb point 4 && eqb s generators) ≡ true → filled 0 1 n (λ k. 0 + 1 * k) run ≡ filled 0 1 n (item_for point s) run
items-count point s n run e = filled-same 0 1 n (λ k. 0 + 1 * k) (item_for point s) run (λ k h. rw e (omega arith))

pub items-silent : (point s n : ℕ) (run : List ℕ) → (eqb point 4 && eqb s generators) ≡ false → filled 0 1 n (λ k. 0) run ≡ filled 0 1 n (item_for point s) run
items-silent point s n run e = filled-same 0 1 n (λ k. 0) (item_for point s) run (λ k h. rw e)

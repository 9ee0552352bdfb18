-- What a loop that looks for the lowest number at which a test fails answers: where it stops, and at its end.
-- Assumes nothing.
use mathlib.Core.Path.{◌≡◌, refl}
use mathlib.Core.Bool.{Bool, false}
use Prim.Native.Nat.{ℕ, ◌<◌}
use native.Mathlib.Omega.{arith}
use borrow.Author.Tests.{eq-eqb, ne_eqb}
use Rattle.std.specs.Prelude.{None, Some}
use Rattle.base_sequences.specs.Sequences.{first_failing}
use Rattle.base_sequences.proofs.Loops.{failing-here}
use Rattle.compare_points.specs.AsCoded.{where_failing}

module _ (p : ℕ → Bool) {i n : ℕ} (held : first_failing p i ≡ i) where
  pub fails_there : i < n → p i ≡ false → Some i ≡ where_failing n (first_failing p n)
  fails_there l h = rw (failing-here p i n l held h, ne_eqb i n (λ e. omega arith))

  pub fails_nowhere : i ≡ n → None ≡ where_failing n (first_failing p n)
  fails_nowhere e = rw (← e, held, eq-eqb i i refl)

-- `generator_oscillator::multiple_index` meets its contract: the low bits of the product are those of K times GN, by the law at any width.
-- Assumes nothing.
use mathlib.Core.Path.{ap}
use Prim.Native.Nat.{ℕ, ◌*◌}
use native.Mathlib.Omega.{arith}
use Rattle.generator_oscillator.proofs.Cosines.{multiple-is, product-fits}
use Rattle.generator_oscillator.proofs.multiple_index.Goals as goal

pub overflow_mul-result : goal.overflow_mul-result
overflow_mul-result c = omega (arith, product-fits c.requires.0 c.requires.1)

pub returns : goal.returns
returns c = ap (λ (n : ℕ). 2 * n) (multiple-is _ _ c.requires.0)

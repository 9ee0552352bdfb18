-- `invokes` meets its contract: a modifier does by its function's code.
-- Assumes nothing.
use mathlib.Core.Path.{◌∙◌, ap}
use Prim.Native.Nat.{ℕ}
use lib.Dec.{eqb}
use Rattle.pass_modifiers.proofs.invokes.Goals as goal

pub returns-in-Of1978 : goal.returns-in-Of1978
returns-in-Of1978 c = rw c.in-Of1978.is (c.invoking.ensures ∙ ap (λ (f : ℕ). eqb f 0b00111) c.function.ensures)
